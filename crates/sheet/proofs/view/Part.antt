-- A part of a shared slice of bytes: what the slice owns, with a share of its lifetime, becomes what the part from one place to another owns, under
-- a name of its own, and the share comes back. The logic's rule for such parts does it; here the machine's values are put in. Nothing here speaks
-- of sheets. Assumes `Logic`.
use mathlib.Core.Path.{◌≡◌, refl, ◌∙◌, ap}
use Prim.Native.Nat.{ℕ, ◌+◌, ◌-◌, ◌≤◌}
use mathlib.Core.List.{List, [], ◌∷◌}
use lib.ListN.{length, take, drop as drop-list}
use lib.Seq.{length-take-le}
use native.Mathlib.Omega.{arith}
use seplogic.Ra.Ura.{Ura}
use mir.Syntax.{Lifetime}
use mir.Val.{Val}
use base.Logic.{ent, sep, ex}
use base.Fml.{Lft, GName, Share, flft}
use types.Logic.{Logic, sem}
use types.Kit.{‵, ◌⊛◌, later, ◌$◌, ◌∵◌, !, qed, use2, drop, split, rewrite, fsplit, fjoin, feq_i, await, updating, now as at_once, show, done}
use denote.Builtin.{u8}
use denote.Ref.{Bor}
use denote.Slice.{slice_val, ShrSlice}
use borrow.Table.Owned as O
use borrow.Table.Elements.{at, at_byte}
use borrow.Rule.Slice.Prefix.{shs_part_same}

module _ {M : Type 1} {𝓤 : Ura M} (𝓛 : Logic 𝓤) (ℓ ℓ' : Lifetime) (κ : Lft) (q : Share) (b o : ℕ) (γ : GName) (ys : List ℕ) (from to : ℕ) where
  open 𝓛 use {H, A}

  abbrev lent : Bor (List ℕ)
  lent = record { ref_ptr = (b, o); now = ys }

  -- the bytes of the part, and a slice of them
  abbrev pub bytes : List ℕ
  bytes = take (to - from) (drop-list from ys)

  abbrev pub part : GName → Bor (List ℕ)
  part δ = record { ref_ptr = (b, from + o); now = bytes }

  abbrev pub value : Val
  value = slice_val (b, from + o) (length bytes)

  pub parted : from ≤ to → to ≤ length ys → ent 𝓤 (sep 𝓤 (sem 𝓛 ((ShrSlice ℓ κ u8).own_val lent (slice_val (b, o) (length ys) ∷ []))) (A.lft κ q))
      (H.⇛ (ex 𝓤 (λ (δ : GName). sep 𝓤 (sem 𝓛 ((ShrSlice ℓ' κ u8).own_val (part δ) (value ∷ []))) (A.lft κ q))))
  parted before inside =
      let place : at o 1 (length (take from ys)) ≡ from + o = ap (at o 1) (length-take-le from ys (omega arith)) ∙ at_byte o from in
      qed 𝓛 (‵ ((ShrSlice ℓ κ u8).own_val lent (slice_val (b, o) (length ys) ∷ [])) ∷ ‵ (flft κ q) ∷ []) ∵ updating ! $ fsplit ! $ fsplit ! $ drop ! $ fjoin ! $
      use2 𝓛 (later (‵ ((O.ShrSlice ℓ κ u8).own_val (record { ref_ptr = (b, at o 1 (length (take from ys))); now = bytes })) ⊛ ‵ (flft κ q)))
      (shs_part_same 𝓛 u8 κ q b o ys from (to - from)) $ await ! tt $ split ! $
      rewrite ! 0 (λ (p : ℕ). ‵ ((O.ShrSlice ℓ κ u8).own_val (record { ref_ptr = (b, p); now = bytes }))) place refl $
      at_once ! $ show ! (λ (δ' : GName). sep 𝓤 (sem 𝓛 ((ShrSlice ℓ' κ u8).own_val (part δ') (value ∷ []))) (A.lft κ q)) γ $
      fsplit ! $ feq_i ! (List Val) (value ∷ []) (value ∷ []) refl $ fjoin ! $ fjoin ! $ done !
