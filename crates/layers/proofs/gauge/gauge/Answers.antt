-- `layers::gauge::gauge` meets its contract: after i turns it is what the pair's records in the first i noted slots come to. Assumes nothing.
use mathlib.Core.Path.{◌≡◌, sym, ap, ◌∙◌}
use mathlib.Core.List.{List, []}
use Prim.Native.Nat.{ℕ, ◌+◌}
use native.Mathlib.Omega.{arith}
use lib.ListN.{length, get_or}
use Rattle.layers.specs.declared.gauge.Gauged.{Gauged}
use Rattle.layers.specs.Gauged.{with_reply, gauged_with, not_gauged, gauged_of}
use Rattle.layers.specs.Inside.Noted.{own_in, own_up_to, IsOne}
use Rattle.layers.proofs.MoreNoted.{own-none, own-more}
use Rattle.layers.proofs.MoreGauged.{gauged-none, gauged-one, gauged-append}
use Rattle.layers.proofs.gauge.gauge.Goals.{in-Some, in_default}
use Rattle.layers.proofs.gauge.gauge.Goals as goal
use Rattle.std.specs.Prelude.{Result}
use Rattle.frame.specs.declared.faults.Fault.{Fault}
use Rattle.frame.specs.declared.Reading.{Reading}

-- before the first slot, and one slot more
first : (s own : List ℕ) (pair : ℕ) → not_gauged ≡ gauged_of (own_up_to s pair own 0)
first s own pair = sym (ap (gauged_with not_gauged) (own-none s pair own) ∙ gauged-none not_gauged)

module _ (s own : List ℕ) (pair i slot : ℕ) (e : slot ≡ get_or own i 0) (g : Gauged) (so_far : g ≡ gauged_of (own_up_to s pair own i)) where
  more : gauged_with g (own_in s pair slot) ≡ gauged_of (own_up_to s pair own (i + 1))
  more =
      (λ t. gauged_with (so_far t) (own_in s pair (e t)))
      ∙ sym (ap gauged_of (own-more s pair own i) ∙ gauged-append not_gauged (own_up_to s pair own i) (own_in s pair (get_or own i 0)))

  more-none : own_in s pair slot ≡ [] → g ≡ gauged_of (own_up_to s pair own (i + 1))
  more-none none = sym (ap (gauged_with g) none ∙ gauged-none g) ∙ more

  more-one : (minute : ℕ) (reply : Result Reading Fault) → IsOne (own_in s pair slot) minute reply → with_reply g minute reply ≡ gauged_of (own_up_to s pair own (i + 1))
  more-one minute reply one =
      (λ t. with_reply g (one.minute-is t) (one.reply-is t)) ∙ sym (ap (gauged_with g) one.is ∙ gauged-one g one.entry) ∙ more

pub loop-slot-init : goal.loop-slot-init
loop-slot-init c =
    let a = c.args in
    first a.noted.sheet.now a.noted.own.now a.noted.pair

pub record_of-requires : goal.record_of-requires
record_of-requires c =
    let near = c.args.noted.noted.within c.loop-slot.slot-index (omega arith) in
    record { sheet_value = c.args.noted.sheet_value; slot_bound = rw c.from.ensures near }

pub loop-slot-preserved : goal.loop-slot-preserved
loop-slot-preserved c =
    let a = c.args in
    let l = c.loop-slot in
    elim c.match-record_of.branch [
      | in-Some w ↦
          w.g-is ∙ w.with_reply-g.ensures
          ∙ more-one a.noted.sheet.now a.noted.own.now a.noted.pair l.slot-index c.from.result c.from.ensures l.g l.invariant w.in-Some.seen.minute w.in-Some.seen.reply w.in-Some.ensures
      | in_default w ↦ w.g-is ∙ more-none a.noted.sheet.now a.noted.own.now a.noted.pair l.slot-index c.from.result c.from.ensures l.g l.invariant w.in_default.ensures
    ]

pub returns : goal.returns
returns c =
    let l = c.loop-slot in
    let s = c.args.noted.sheet.now in
    let all : l.slot-index ≡ length c.args.noted.own.now = omega arith in
    l.invariant ∙ ap gauged_of (ap (own_up_to s c.args.noted.pair c.args.noted.own.now) all ∙ c.args.noted.noted.records)
