-- The six charts of document 01 are sound. A computed test over the places of a chart says so of each: the code at the place is within the
-- width, and is found at that place and so at no other.
use mathlib.Core.Path.{◌≡◌, sym, ap, ◌∙◌}
use mathlib.Core.Bool.{Bool, ◌&&◌}
use Prim.Native.Nat.{ℕ, ◌^◌, ◌<◌}
use lib.Dec.{T, eqb, ltb, ltb→lt, eqb→eq}
use lib.ListN.{get_or}
use Rattle.frame.specs.Charts.{Chart, size_of, place_in, one_bit, two_bits, feet_tens, decimal, inches, sixteenths}
use Rattle.frame.proofs.Both.{and_left, and_right}
use Rattle.frame.proofs.Tables.{all_below, at-below}
use Rattle.promises_frame.specs.Rows.{SoundChart}

-- The code at a place is within the width and is found there.
abbrev place_right : Chart → ℕ → Bool
place_right c i = ltb (get_or c.codes i 0) (2 ^ c.width) && eqb (place_in (get_or c.codes i 0) c.codes) i

sound : (c : Chart) → T (ltb 0 (size_of c)) → T (all_below (place_right c) (size_of c)) → SoundChart c
sound c some h =
    let code : ℕ → ℕ = λ i. get_or c.codes i 0 in
    let inside : ℕ → Bool = λ i. ltb (code i) (2 ^ c.width) in
    let found : ℕ → Bool = λ i. eqb (place_in (code i) c.codes) i in
    let place : (i : ℕ) → i < size_of c → place_in (code i) c.codes ≡ i
    = λ i k. eqb→eq (place_in (code i) c.codes) i (and_right (inside i) (found i) (at-below (place_right c) (size_of c) h i k)) in
    record {
      some = ltb→lt 0 (size_of c) some;
      within = λ i k. ltb→lt (code i) (2 ^ c.width) (and_left (inside i) (found i) (at-below (place_right c) (size_of c) h i k));
      single = λ i j k l e. sym (place i k) ∙ ap (λ (x : ℕ). place_in x c.codes) e ∙ place j l;
    }

pub one_bit-sound : SoundChart one_bit
unfolding one_bit place_in
one_bit-sound = sound one_bit tt tt

pub two_bits-sound : SoundChart two_bits
unfolding two_bits place_in
two_bits-sound = sound two_bits tt tt

pub feet_tens-sound : SoundChart feet_tens
unfolding feet_tens place_in
feet_tens-sound = sound feet_tens tt tt

pub decimal-sound : SoundChart decimal
unfolding decimal place_in
decimal-sound = sound decimal tt tt

pub inches-sound : SoundChart inches
unfolding inches place_in
inches-sound = sound inches tt tt

pub sixteenths-sound : SoundChart sixteenths
unfolding sixteenths place_in
sixteenths-sound = sound sixteenths tt tt
