-- Readings drawn evenly are in time where the pace leaves time for 56 bits, since a reply has no more; and each can be sent.
use mathlib.Core.Path.{◌≡◌, refl, sym, ap, subst, ◌∙◌}
use mathlib.Core.Bool.{Bool, true, false}
use mathlib.Core.List.{List, [], ◌∷◌, ◌++◌, map}
use Prim.Native.Nat.{ℕ, suc, ◌+◌, ◌*◌, ◌≤◌}
use native.Mathlib.Omega.{arith}
use native.Mathlib.Nat.{mul-le-mul_right}
use lib.Dec.{eqb}
use lib.ListN.{length, replicate, length-append, length-replicate}
use Rattle.frame.specs.declared.Reading.{Reading}
use Rattle.frame.specs.Pick.{pick}
use Rattle.frame.specs.Reply.{count_for}
use Rattle.frame.specs.Temperature.{is_absent}
use Rattle.board.specs.declared.Row.{Row}
use Rattle.lines.specs.Timing.{Timing}
use Rattle.polling.specs.declared.Pace.{Pace}
use Rattle.polling.specs.Pace.{timing_of, bad_pace}
use Rattle.promises_frame.specs.WrittenThenRead.{CanSay}
use Rattle.promises_lines.specs.History.{bits_of}
use Rattle.promises_lines.specs.Drawn.{Pulse, drawn}
use Rattle.promises_lines.proofs.Messages.{bits-long}
use Rattle.promises_polling.proofs.Paces.{fine-pace}
use Rattle.promises_wire.specs.Polls.{Asked}
use Rattle.promises_wire.specs.Wire.{samples_of, evenly, Sent}
use Rattle.promises_wire.specs.TankToDesk.{SentSo}
use Rattle.promises_wire.specs.InTime.{InTime}
use Rattle.promises_wire.specs.AnyBatches.{SentToAll, none_sent, one_sent, CanSayAll, none_to_say, one_to_say, Suits}
use Rattle.promises_wire.proofs.Happens.{any-reading}

-- How long a reply is, drawn evenly.
sized : (n x m : ℕ) (l : List ℕ) → length (replicate n x ++ replicate m 0 ++ l) ≡ n + m + length l
sized n x m l =
    length-append (replicate n x ++ replicate m 0) l
    ∙ ap (λ (k : ℕ). k + length l) (length-append (replicate n x) (replicate m 0) ∙ (λ i. length-replicate {A = ℕ} n x i + length-replicate {A = ℕ} m 0 i))

evenly-long : (low still gap : ℕ) (bits : List ℕ) → length (drawn (evenly low still gap bits)) ≤ length bits * (low + still) + gap
unfolding drawn
evenly-long low still gap [] = omega arith
evenly-long low still gap (c ∷ []) = omega (arith, sized low (pick (eqb c 1) 1 2) gap [])
evenly-long low still gap (c ∷ d ∷ bits) =
    let rest = evenly-long low still gap (d ∷ bits) in
    let size = sized low (pick (eqb c 1) 1 2) still (drawn (evenly low still gap (d ∷ bits))) in
    let more : suc (length (d ∷ bits)) * (low + still) ≡ length (d ∷ bits) * (low + still) + (low + still) = omega arith in
    omega (arith, rest, size, more)

few_bits : (r : Reading) → count_for r ≤ 56
few_bits r = go (is_absent r.temperature)
  where
    go : (b : Bool) → pick b 40 56 ≤ 56
    go true = omega arith
    go false = omega arith

-- Sent to every row, each reading drawn evenly.
pub record SentEvenly (p : Pace) (rows : List Row) (rs : List Reading) : Type 0 where
  pub xs : List Sent
  pub are : map (λ (x : Sent). x.reading) xs ≡ rs
  pub sent : SentToAll p rows xs

module _ (p : Pace) (fine : bad_pace p ≡ false) (quiet low still : ℕ) (suits : Suits p quiet low still) where
  abbrev asked_of : (row : Row) (r : Reading) → CanSay row.settings row.address r → Asked
  asked_of row r can =
      record {
        timing = timing_of p;
        settings = row.settings;
        minute = 0;
        address = row.address;
        timing-fine = (fine-pace p fine).timing;
        settings_in = can.settings_in;
        minute_fits = omega arith;
        address_in = can.address_in;
      }

  in-time : (q : Asked) (r : Reading) → q.timing ≡ timing_of p → (s : SentSo q r quiet low still) → InTime p s.sent
  in-time q r timed s =
      let d = s.sent.drawing in
      let bits : List ℕ = bits_of (count_for r) s.sent.bytes in
      let size : length (samples_of d) ≡ d.quiet + length (drawn (d.first ∷ d.rest))
      = length-append (replicate d.quiet 0) (drawn (d.first ∷ d.rest)) ∙ ap (λ (k : ℕ). k + length (drawn (d.first ∷ d.rest))) (length-replicate d.quiet 0) in
      let pulses : length (drawn (d.first ∷ d.rest)) ≡ length (drawn (evenly low still p.gap bits))
      = ap (λ (l : List Pulse). length (drawn l)) (s.pulses_so ∙ ap (λ (u : Timing). evenly low still u.gap bits) timed) in
      let most = evenly-long low still p.gap bits in
      let count : length bits ≤ 56 = subst (λ (n : ℕ). n ≤ 56) (sym (bits-long (count_for r) s.sent.bytes)) (few_bits r) in
      let product : length bits * (low + still) ≤ 56 * (low + still) = mul-le-mul_right (low + still) count in
      let ends = suits.ends in
      let begins = suits.begins in
      let before = s.quiet_so in
      record {
        timing = ap (λ (a : Asked). a.timing) s.asked ∙ timed;
        begins = omega (arith, before, begins);
        ends = omega (arith, size, before, pulses, most, product, ends);
      }

  pub sent-evenly : {rows : List Row} {rs : List Reading} → CanSayAll rows rs → SentEvenly p rows rs
  sent-evenly none_to_say = record { xs = []; are = refl; sent = none_sent }
  sent-evenly (one_to_say row r can more) =
      let s = any-reading (asked_of row r can) r can quiet low still suits.least suits.most suits.some suits.short in
      let m = sent-evenly more in
      record {
        xs = s.sent ∷ m.xs;
        are = λ i. s.reading i ∷ m.are i;
        sent = one_sent row s.sent (in-time (asked_of row r can) r refl s) (ap (λ (a : Asked). a.settings) s.asked, ap (λ (a : Asked). a.address) s.asked) m.sent;
      }
