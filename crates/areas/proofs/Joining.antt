-- How many transmitters join an area: never more than there are, nor more than its limits allow. Assumes nothing.
use mathlib.Core.Path.{◌≡◌, sym, ap, ◌∙◌}
use mathlib.Core.Bool.{Bool, true, ◌&&◌}
use mathlib.Core.List.{List}
use Prim.Native.Nat.{ℕ, suc, ◌+◌, ◌≤◌, ◌<◌}
use native.Mathlib.Numerals.{add-one}
use borrow.Author.Tests.{leb-true}
use lib.Dec.{leb}
use lib.ListN.{length, get_or, drop}
use lib.Seq.{drop-cons, drop-length}
use Rattle.frame.specs.Pick.{pick}
use Rattle.frame.proofs.Both.{both}
use Rattle.areas.specs.Site.{feet, tenths, total, is_area}
use Rattle.areas.specs.Plan.{joins, joining}

-- What it says that a transmitter joins.
pub joins-so : (many far ohms t : ℕ) → joins many far ohms t ≡ true → (many + 1 ≤ 30) × (far + feet t ≤ 10000) × (ohms + tenths t ≤ 500)
joins-so many far ohms t h =
    let two = both (leb (many + 1) 30 && leb (far + feet t) 10000) (leb (ohms + tenths t) 500) h in
    let one = both (leb (many + 1) 30) (leb (far + feet t) 10000) two.0 in
    (leb-true (many + 1) 30 one.0, leb-true (far + feet t) 10000 one.1, leb-true (ohms + tenths t) 500 two.1)

-- One step, by whether the next transmitter joins.
pub joining-step : (many far ohms : ℕ) (s : List ℕ) (i : ℕ) (b : Bool) → i < length s → joins many far ohms (get_or s i 0) ≡ b
    → joining many far ohms (drop i s) ≡ pick b (suc (joining (many + 1) (far + feet (get_or s i 0)) (ohms + tenths (get_or s i 0)) (drop (i + 1) s))) 0
unfolding joining
joining-step many far ohms s i b h e =
    let t = get_or s i 0 in
    ap (joining many far ohms) (drop-cons s i 0 h)
    ∙ (λ k. pick (e k) (suc (joining (many + 1) (far + feet t) (ohms + tenths t) (drop (sym (add-one i) k) s))) 0)

-- At the end of the site nobody joins.
pub joining-end : (many far ohms : ℕ) (s : List ℕ) (i : ℕ) → i ≡ length s → joining many far ohms (drop i s) ≡ 0
unfolding joining
joining-end many far ohms s i e = ap (joining many far ohms) (ap (λ (k : ℕ). drop k s) e ∙ drop-length s)

-- Both chains of tests, by what the tests give.
pub joins-by : (many far ohms t : ℕ) (x y z : Bool) → leb (many + 1) 30 ≡ x → leb (far + feet t) 10000 ≡ y → leb (ohms + tenths t) 500 ≡ z
    → joins many far ohms t ≡ (x && y && z)
joins-by many far ohms t x y z a b c = λ i. (a i && b i && c i)

pub area-by : (s : List ℕ) (x y z w : Bool) → leb 1 (length s) ≡ x → leb (length s) 30 ≡ y → leb (total feet s) 10000 ≡ z → leb (total tenths s) 500 ≡ w
    → is_area s ≡ (x && y && z && w)
unfolding is_area
area-by s x y z w a b c d = λ i. (a i && b i && c i && d i)
