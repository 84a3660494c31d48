-- `polling::listening::Told::bits` meets its contract: the eight zeros are those of no message.
use Rattle.std.proofs.Common.{◌≡◌, ℕ, List, [], ◌∷◌, refl}
use Rattle.frame.specs.Line.{first_bytes}
use Rattle.polling.specs.declared.listening.Told.{Told}
use Rattle.polling.specs.declared.listening.Told.TheVariants.{Silence, Message, Spoiled}
use Rattle.polling.specs.Inside.Ears.{count_in, bytes_in}
use Rattle.polling.proofs.listening.Told.bits.Goals as goal

none-in : (t : Told) → ((count : ℕ) (reply : List ℕ) → t ≡ Message count reply → ⊥) → ◌≡◌ {A = ℕ × List ℕ} (0, 0 ∷ 0 ∷ 0 ∷ 0 ∷ 0 ∷ 0 ∷ 0 ∷ 0 ∷ []) (count_in t, bytes_in t)
unfolding first_bytes
none-in Silence other = refl
none-in (Message count reply) other = absurd (other count reply refl)
none-in (Spoiled number) other = refl

pub returns-in_default : goal.returns-in_default
returns-in_default c = none-in c.args.self c.in_default.not-Message
