-- `enraf::reading::read` meets its contract: each return is the list of tests by what they gave, and an accepted record has its digits and at most 16
-- characters of data. Assumes nothing.
use mathlib.Core.Path.{◌≡◌, refl, sym, ap, ◌∙◌}
use mathlib.Core.Bool.{true, false, ◌&&◌}
use mathlib.Core.List.{List, ◌++◌}
use Prim.Native.Nat.{ℕ, ◌+◌, ◌-◌, ◌*◌, ◌≤◌}
use native.Mathlib.Omega.{arith}
use lib.ListN.{length, get_or, take, drop, replicate}
use Rattle.std.specs.Prelude.{Ok}
use Rattle.frame.specs.Faults.{verdict}
use Rattle.enraf.specs.Item.{item_of, is_letter, kind_fits, text_fits, kind_in, error_in, characters_in}
use Rattle.enraf.specs.Inside.{kind_number}
use Rattle.enraf.specs.Reading.{framed, check_right, addressed, tail_in, item_in, read_fault, told_in_integers}
use Rattle.enraf.proofs.ByTests.{read-fault-by, too-short, address-digits}
use Rattle.enraf.proofs.SixKinds.{characters-few, fits-kind}
use Rattle.enraf.proofs.reading.read.Goals.{Else-not-is_framed, Else-not-is_checked, Else-not-is_addressed, After-fits}
use Rattle.enraf.proofs.reading.read.Goals as goal

-- the answer, by the number of what refuses it
by-number : {n : ℕ} (s : List ℕ) → read_fault s ≡ n → verdict n (told_in_integers (item_in s)) ≡ verdict (read_fault s) (told_in_integers (item_in s))
by-number s e = sym (ap (λ (m : ℕ). verdict m (told_in_integers (item_in s))) e)

in_frame : (c : Else-not-is_framed) → framed c.args.bytes.now ≡ true
in_frame c = sym c.is_framed.ensures ∙ c.if-not-is_framed.false

right : (c : Else-not-is_checked) → check_right c.args.bytes.now ≡ true
right c = sym c.is_checked.ensures ∙ c.if-not-is_checked.false

named : (c : Else-not-is_addressed) → addressed c.args.bytes.now ≡ true
named c = sym c.is_addressed.ensures ∙ c.if-not-is_addressed.false

-- what was taken out of the bytes is the item that they say
text-said : (s : List ℕ) (k e : ℕ) (d : List ℕ) → k ≡ kind_in (tail_in s) → e ≡ error_in (tail_in s) → d ≡ characters_in (tail_in s)
    → text_fits (item_of 0 0 (get_or s 6 0) (get_or s 7 0) k e d) ≡ text_fits (item_in s)
unfolding text_fits item_in
text-said s k e d pk pe pd = λ i. (is_letter (get_or s 6 0) && is_letter (get_or s 7 0) && kind_fits (pk i) (pe i) (pd i))

-- the part that the pattern takes is what follows the letters
tail-is : (s : List ℕ) → take (length s - 2 - 8) (drop 8 s) ≡ tail_in s
tail-is s =
    let inner : length s - 2 - 8 ≡ length s - 10 = omega arith in
    ap (λ (m : ℕ). take m (drop 8 s)) inner

said : (c : After-fits) → c.fits.result ≡ text_fits (item_in c.args.bytes.now)
said c =
    let t = tail-is c.args.bytes.now in
    c.fits.ensures
    ∙ text-said c.args.bytes.now (kind_number c.kind_in-kind.result) c.error_in-error.result c.characters_in-characters.result.now
    (c.kind_in-kind.ensures ∙ ap kind_in t) (c.error_in-error.ensures ∙ ap error_in t) (c.characters_in-characters.ensures ∙ ap characters_in t)

fitting : (c : After-fits) → c.fits.result ≡ true → text_fits (item_in c.args.bytes.now) ≡ true
fitting c passed = sym (said c) ∙ passed

few : (s : List ℕ) → text_fits (item_in s) ≡ true → length (characters_in (tail_in s)) ≤ 16
unfolding item_in
few s h = characters-few (kind_in (tail_in s)) (error_in (tail_in s)) (characters_in (tail_in s)) (fits-kind (item_in s) h)

pub returns-in_default : goal.returns-in_default
returns-in_default c =
    let s = c.args.bytes.now in
    by-number s (read-fault-by s false _ _ _ (too-short s c.in_default.len_below) refl refl refl)

pub returns-then-not-is_framed : goal.returns-then-not-is_framed
returns-then-not-is_framed c =
    let s = c.args.bytes.now in
    by-number s (read-fault-by s false _ _ _ (sym c.is_framed.ensures ∙ c.if-not-is_framed.true) refl refl refl)

pub returns-then-not-is_checked : goal.returns-then-not-is_checked
returns-then-not-is_checked c =
    let s = c.args.bytes.now in
    let framed-so = in_frame (goal.at.returns-then-not-is_checked c).Else-not-is_framed in
    by-number s (read-fault-by s true false _ _ framed-so (sym c.is_checked.ensures ∙ c.if-not-is_checked.true) refl refl)

pub returns-then-not-is_addressed : goal.returns-then-not-is_addressed
returns-then-not-is_addressed c =
    let s = c.args.bytes.now in
    let at = goal.at.returns-then-not-is_addressed c in
    by-number s (read-fault-by s true true false _ (in_frame at.Else-not-is_framed) (right at.Else-not-is_checked) (sym c.is_addressed.ensures ∙ c.if-not-is_addressed.true) refl)

pub returns-then-not-fits : goal.returns-then-not-fits
returns-then-not-fits c =
    let s = c.args.bytes.now in
    let at = goal.at.returns-then-not-fits c in
    by-number s
    (read-fault-by s true true true false (in_frame at.Else-not-is_framed) (right at.Else-not-is_checked) (named at.Else-not-is_addressed) (sym (said at.After-fits) ∙ c.if-not-fits.true))

pub sixteen-requires : goal.sixteen-requires
sixteen-requires c =
    let s = c.args.bytes.now in
    let most = few s (fitting (goal.at.sixteen-requires c).After-fits c.if-not-fits.false) in
    let same = ap length (c.characters_in-characters.ensures ∙ ap characters_in (tail-is s)) in
    omega arith

pub digit_of-requires : goal.digit_of-requires
digit_of-requires c = (address-digits c.args.bytes.now (named (goal.at.digit_of-requires c).Else-not-is_addressed)).0

pub digit_of-requires-2 : goal.digit_of-requires-2
digit_of-requires-2 c = (address-digits c.args.bytes.now (named (goal.at.digit_of-requires-2 c).Else-not-is_addressed)).1

pub digit_of-requires-3 : goal.digit_of-requires-3
digit_of-requires-3 c = (address-digits c.args.bytes.now (named (goal.at.digit_of-requires-3 c).Else-not-is_addressed)).2

pub returns : goal.returns
unfolding item_in
returns c =
    let s = c.args.bytes.now in
    let at = goal.at.returns c in
    let t = tail-is s in
    let kind = c.from.ensures ∙ c.kind_in-kind.ensures ∙ ap kind_in t in
    let error = c.error_in-error.ensures ∙ ap error_in t in
    let part = c.characters_in-characters.ensures ∙ ap characters_in t in
    let row = c.sixteen.ensures ∙ ap (λ (d : List ℕ). d ++ replicate (16 - length d) 0) part in
    let one = c.digit_of.ensures.0 in
    let two = c.digit_of-2.ensures.0 in
    let three = c.digit_of-3.ensures.0 in
    let none = read-fault-by s true true true true (in_frame at.Else-not-is_framed) (right at.Else-not-is_checked) (named at.Else-not-is_addressed) (fitting at.After-fits c.if-not-fits.false) in
    (λ i. Ok (record {
      characters = row i;
      error = error i;
      ciu = one i;
      gauge = two i * 10 + three i;
      first = get_or s 6 0;
      second = get_or s 7 0;
      kind = kind i;
      length = length (part i);
      number = 0;
    })) ∙ by-number s none
