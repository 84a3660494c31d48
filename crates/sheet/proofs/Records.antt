-- When 32 bytes are those of the record that they tell: length and version are right, and FF follows. The other bytes are what was read from them.
-- Assumes nothing.
use mathlib.Core.Path.{◌≡◌, refl, sym, ap, subst, ◌∙◌}
use mathlib.Core.Bool.{Bool, true, false, not, ◌&&◌, false≢true}
use mathlib.Core.List.{List, [], ◌∷◌, ◌++◌}
use Prim.Native.Nat.{ℕ, zero, suc, ◌+◌, ◌-◌, ◌*◌, ◌%◌, ◌^◌, ◌≤◌}
use native.Mathlib.Omega.{arith}
use borrow.Author.Tests.{eqb-true, ltb-false, leb-true}
use lib.Dec.{eqb, ltb, leb}
use lib.ListN.{length, get_or, take, drop, replicate, length-drop, take-append-drop}
use lib.Seq.{drop-cons, drop-append-le, length-take-le, take-take, drop-drop}
use Rattle.frame.specs.Pick.{pick}
use Rattle.frame.specs.Line.{bytes_for, pad_clear, formed}
use Rattle.frame.specs.Faults.{first_of}
use Rattle.frame.proofs.Both.{both_left, both_right}
use Rattle.sheet.specs.Bytes.{FF, big_endian, number_in, all_blank, same}
use Rattle.sheet.specs.Record.{Entry, length_of, record_of, picture, fields_of, passes, is_record}
use Rattle.sheet.proofs.Numbers.{AreBytes, bytes_take, bytes_drop, bytes_back}
use Rattle.sheet.proofs.Blank.{blank-append}
use Rattle.sheet.proofs.ReplyWord.{ending, reply-left}
use Rattle.sheet.proofs.Same.{same-append, same-front, same-tail, same_number}

-- A slot's 32 bytes, taken apart, against those of the record that they tell. Between the version and the reply each byte is what was read from it.
tests : (a b v s m₁ m₂ m₃ m₄ p q n : ℕ) (rest : List ℕ) → AreBytes (a ∷ b ∷ v ∷ s ∷ m₁ ∷ m₂ ∷ m₃ ∷ m₄ ∷ p ∷ q ∷ n ∷ rest) → length rest ≡ 21 → n ≤ 64
    → let x =
    a ∷ b ∷ v ∷ s ∷ m₁ ∷ m₂ ∷ m₃ ∷ m₄ ∷ p ∷ q ∷ n ∷ rest in same x (picture (fields_of x)) ≡
    (eqb (number_in (take 2 x)) (9 + bytes_for n) && (eqb v 1 && all_blank (drop (bytes_for n) rest)))
unfolding same picture fields_of
tests a b v s m₁ m₂ m₃ m₄ p q n rest bytes long few =
    let x = a ∷ b ∷ v ∷ s ∷ m₁ ∷ m₂ ∷ m₃ ∷ m₄ ∷ p ∷ q ∷ n ∷ rest in
    let e = fields_of x in
    let size = bytes_for n in
    let reply = take size rest in
    let blanks = replicate (32 - length (record_of e)) FF in
    let front = s ∷ m₁ ∷ m₂ ∷ m₃ ∷ m₄ ∷ p ∷ q ∷ n ∷ [] in
    let short : length reply ≡ size = length-take-le size rest (omega arith) in
    let told : length_of e ≡ 9 + size = omega arith in
    let minute : big_endian 4 e.minute ≡ m₁ ∷ m₂ ∷ m₃ ∷ m₄ ∷ [] =
    bytes_back (m₁ ∷ m₂ ∷ m₃ ∷ m₄ ∷ []) (bytes_take 4 (drop 4 x) (bytes_drop 4 x bytes)) in
    let address : big_endian 2 e.address ≡ p ∷ q ∷ [] = bytes_back (p ∷ q ∷ []) (bytes_take 2 (drop 8 x) (bytes_drop 8 x bytes)) in
    let is : picture e ≡ big_endian 2 (length_of e) ++ 1 ∷ front ++ (reply ++ blanks) =
    λ i. big_endian 2 (length_of e) ++ (1 ∷ s ∷ minute i ++ address i ++ n ∷ reply) ++ blanks in
    let tail : same rest (reply ++ blanks) ≡ all_blank (drop size rest) = same-tail size (32 - length (record_of e)) rest (omega arith) in
    ap (same x) is ∙ same-append (a ∷ b ∷ []) (big_endian 2 (length_of e)) (v ∷ front ++ rest) (1 ∷ front ++ (reply ++ blanks)) refl
    ∙ ap (λ (t : Bool). t && same (v ∷ front ++ rest) (1 ∷ front ++ (reply ++ blanks)))
    (same_number (a ∷ b ∷ []) (length_of e) (bytes_take 2 x bytes) (omega arith) ∙ ap (eqb (number_in (a ∷ b ∷ []))) told)
    ∙ ap (λ (t : Bool). eqb (number_in (a ∷ b ∷ [])) (9 + size) && (eqb v 1 && t)) (same-front front rest (reply ++ blanks) ∙ tail)

-- A row of bytes with the first k of those from j on taken apart.
abbrev row : List ℕ → ℕ → ℕ → List ℕ
row x zero j = drop j x
row x (suc k) j = get_or x j 0 ∷ row x k (suc j)

row_is : (x : List ℕ) (k j : ℕ) → j + k ≤ length x → row x k j ≡ drop j x
row_is x zero j h = refl
row_is x (suc k) j h = ap (λ (l : List ℕ). get_or x j 0 ∷ l) (row_is x k (suc j) (omega arith)) ∙ sym (drop-cons x j 0 (omega arith))

-- Of a slot's 32 bytes: they are those of the record that they tell exactly where the length and the version are right and FF follows.
abbrev Told : List ℕ → Type 0
Told x =
    same x (picture (fields_of x)) ≡
    (eqb (number_in (take 2 x)) (9 + bytes_for (get_or x 10 0)) && (eqb (get_or x 2 0) 1 && all_blank (drop (11 + bytes_for (get_or x 10 0)) x)))

same-picture : (x : List ℕ) → AreBytes x → length x ≡ 32 → get_or x 10 0 ≤ 64 → Told x
same-picture x bytes long few =
    let rest = drop 11 x in
    let y = row x 11 0 in
    let is : y ≡ x = row_is x 11 0 (omega arith) in
    let n = get_or x 10 0 in
    let own =
    tests (get_or x 0 0) (get_or x 1 0) (get_or x 2 0) (get_or x 3 0) (get_or x 4 0) (get_or x 5 0) (get_or x 6 0) (get_or x 7 0) (get_or x 8 0) (get_or x 9 0) n rest
    (subst AreBytes (sym is) bytes) (simp length-drop (omega arith)) few in
    let further : drop (bytes_for n) rest ≡ drop (11 + bytes_for n) y = drop-drop (bytes_for n) 11 y in
    subst Told is (own ∙ ap (λ (l : List ℕ). eqb (number_in (take 2 y)) (9 + bytes_for n) && (eqb (get_or y 2 0) 1 && all_blank l)) further)

-- A record whose reply is out of form does not pass.
pub unformed : (e : Entry) → formed e.count e.reply ≡ false → passes e ≡ false
unfolding passes first_of
unformed e h = go (ltb 15 e.settings) (ltb 999 e.address) (formed e.count e.reply) h
  where
    go : (s a f : Bool) → f ≡ false → eqb (pick s 10 (pick a 11 (pick (not f) 14 0))) 0 ≡ false
    go true a f e = refl
    go false true f e = refl
    go false false true e = e
    go false false false e = refl

-- The checks by their three tests.
passes-by : (e : Entry) → passes e ≡ (not (ltb 15 e.settings) && (not (ltb 999 e.address) && formed e.count e.reply))
unfolding passes first_of
passes-by e = go (ltb 15 e.settings) (ltb 999 e.address) (formed e.count e.reply)
  where
    go : (s a f : Bool) → eqb (pick s 10 (pick a 11 (pick (not f) 14 0))) 0 ≡ (not s && (not a && f))
    go true a f = refl
    go false true f = refl
    go false false true = refl
    go false false false = refl

-- What follows a reply: the rest of the 8 bytes where one can stand, and the bytes after those.
behind : (x : List ℕ) (n : ℕ) → length x ≡ 32 → n ≤ 8
    → all_blank (drop (11 + n) x) ≡ (all_blank (drop n (take 8 (drop 11 x))) && all_blank (drop 19 x))
behind x n long short =
    let ys = take 8 (drop 11 x) in
    let full : length ys ≡ 8 = length-take-le 8 (drop 11 x) (simp length-drop (omega arith)) in
    let split : drop 11 x ≡ ys ++ drop 19 x =
    sym (take-append-drop 8 (drop 11 x)) ∙ ap (λ (l : List ℕ). ys ++ l) (drop-drop 8 11 x) in
    ap all_blank
    (sym (drop-drop n 11 x) ∙ ap (drop n) split ∙ drop-append-le n ys (drop 19 x) (omega arith))
    ∙ blank-append (drop n ys) (drop 19 x)

-- The tests of a record, in the order in which the code makes them.
reorder : (s a f t u b w : Bool) → ((s && (a && f)) && (t && (u && (b && w)))) ≡ (s && (a && (t && (u && (w && (f && b))))))
reorder false a f t u b w = refl
reorder true false f t u b w = refl
reorder true true true false u b w = refl
reorder true true true true false b w = refl
reorder true true true true true true true = refl
reorder true true true true true true false = refl
reorder true true true true true false true = refl
reorder true true true true true false false = refl
reorder true true false false u b w = refl
reorder true true false true false b w = refl
reorder true true false true true b true = refl
reorder true true false true true b false = refl

-- What a slot is found to be by its parts: settings, address, length, version, the FF after the bytes where a reply can stand, and those bytes, of which
-- one word tells both the pad bits and the FF after the reply.
pub found : (x : List ℕ) → AreBytes x → length x ≡ 32 → get_or x 10 0 ≤ 64
    → is_record x ≡
    (not (ltb 15 (get_or x 3 0))
    && (not (ltb 999 (number_in (take 2 (drop 8 x))))
    && (eqb (number_in (take 2 x)) (9 + bytes_for (get_or x 10 0))
    && (eqb (get_or x 2 0) 1
    && (all_blank (drop 19 x)
    && eqb (number_in (take 8 (drop 11 x)) % 2 ^ (64 - get_or x 10 0)) (2 ^ (64 - 8 * bytes_for (get_or x 10 0)) - 1))))))
unfolding is_record fields_of
found x bytes long few =
    let e = fields_of x in
    let n = get_or x 10 0 in
    let size = bytes_for n in
    let ys = take 8 (drop 11 x) in
    let s = not (ltb 15 e.settings) in
    let a = not (ltb 999 e.address) in
    let t = eqb (number_in (take 2 x)) (9 + size) in
    let u = eqb (get_or x 2 0) 1 in
    let w = all_blank (drop 19 x) in
    let own : formed n (take size (drop 11 x)) ≡ formed n (take size ys) = ap (formed n) (sym (take-take size 8 (drop 11 x) (omega arith))) in
    let full : length ys ≡ 8 = length-take-le 8 (drop 11 x) (simp length-drop (omega arith)) in
    let last = ending ys (bytes_take 8 (drop 11 x) (bytes_drop 11 x bytes)) full n few in
    ap (λ (r : Bool). passes e && r) (same-picture x bytes long few)
    ∙ (λ i. (passes-by e ∙ ap (λ (f : Bool). s && (a && f)) own) i && (t && (u && behind x size long (omega arith) i)))
    ∙ reorder s a (formed n (take size ys)) t u (all_blank (drop size ys)) w
    ∙ ap (λ (r : Bool). s && (a && (t && (u && (w && r))))) (sym last)

last_of : (s a t u w z : Bool) → (s && (a && (t && (u && (w && z))))) ≡ true → z ≡ true
last_of s a t u w true h = refl
last_of false a t u w false h = h
last_of true false t u w false h = h
last_of true true false u w false h = h
last_of true true true false w false h = h
last_of true true true true false false h = h
last_of true true true true true false h = h

-- Of a record, the bytes where its reply stands: with the bits after the count cleared they are the reply's, and 0 after them.
pub record-reply : (x : List ℕ) → AreBytes x → length x ≡ 32 → get_or x 10 0 ≤ 64 → is_record x ≡ true
    → let w = number_in (take 8 (drop 11 x)) in big_endian 8 (w - w % 2 ^ (64 - get_or x 10 0))
    ≡ take (bytes_for (get_or x 10 0)) (drop 11 x) ++ replicate (8 - bytes_for (get_or x 10 0)) 0
record-reply x bytes long few is =
    let n = get_or x 10 0 in
    let size = bytes_for n in
    let ys = take 8 (drop 11 x) in
    let full : length ys ≡ 8 = length-take-le 8 (drop 11 x) (simp length-drop (omega arith)) in
    let last =
    last_of (not (ltb 15 (get_or x 3 0))) (not (ltb 999 (number_in (take 2 (drop 8 x))))) (eqb (number_in (take 2 x)) (9 + size)) (eqb (get_or x 2 0) 1)
    (all_blank (drop 19 x)) (eqb (number_in ys % 2 ^ (64 - n)) (2 ^ (64 - 8 * size) - 1)) (sym (found x bytes long few) ∙ is) in
    reply-left ys (bytes_take 8 (drop 11 x) (bytes_drop 11 x bytes)) full n few last
    ∙ ap (λ (l : List ℕ). l ++ replicate (8 - size) 0) (take-take size 8 (drop 11 x) (omega arith))

-- What a record in a slot says of itself passes the checks, so its count is at most 64.
pub record-passes : (x : List ℕ) → is_record x ≡ true → passes (fields_of x) ≡ true
unfolding is_record
record-passes x h = both_left (passes (fields_of x)) (same x (picture (fields_of x))) h

pub passes-all : (e : Entry) → passes e ≡ true → (e.settings ≤ 15) × (e.address ≤ 999) × (formed e.count e.reply ≡ true)
unfolding passes first_of
passes-all e h = go (ltb 15 e.settings) (ltb 999 e.address) (formed e.count e.reply) refl refl refl h
  where
    go : (s a f : Bool) → ltb 15 e.settings ≡ s → ltb 999 e.address ≡ a → formed e.count e.reply ≡ f
        → eqb (pick s 10 (pick a 11 (pick (not f) 14 0))) 0 ≡ true → (e.settings ≤ 15) × (e.address ≤ 999) × (formed e.count e.reply ≡ true)
    go true a f p q r h = absurd (false≢true h)
    go false true f p q r h = absurd (false≢true h)
    go false false false p q r h = absurd (false≢true h)
    go false false true p q r h = (ltb-false 15 e.settings p, ltb-false 999 e.address q, r)

pub passes-formed : (e : Entry) → passes e ≡ true → formed e.count e.reply ≡ true
passes-formed e h = (passes-all e h).2

pub formed-few : (count : ℕ) (s : List ℕ) → formed count s ≡ true → (count ≤ 64) × (length s ≡ bytes_for count)
unfolding formed
formed-few count s h =
    let first = both_left (leb count 64 && eqb (length s) (bytes_for count)) (pad_clear count s) h in
    let few = both_left (leb count 64) (eqb (length s) (bytes_for count)) first in
    let size = both_right (leb count 64) (eqb (length s) (bytes_for count)) first in
    (leb-true count 64 few, eqb-true (length s) (bytes_for count) size)
