-- `areas::sisal_check_areas` meets its contract: each return is the list of refusals by what the tests gave. Assumes nothing.
use Rattle.std.proofs.Common.{refl, sym, ◌∙◌, true, false}
use Rattle.std.proofs.lemmas.Bool.{lt-ltb, le-ltb, lt-leb, le-leb}
use Rattle.areas.proofs.Cutting.{check-by}
use Rattle.areas.proofs.sisal_check_areas.Goals.{else-plan-le8-via-then-plan-le8+else-is_kept, else-plan-le8-via-else-plan-le8}
use Rattle.areas.proofs.sisal_check_areas.Goals as goal

pub returns-then-site-gt120 : goal.returns-then-site-gt120
returns-then-site-gt120 c = record { answers = sym (check-by c.args.site.now c.args.plan.now true _ _ (lt-ltb _ _ c.if-site-gt120.true) refl refl) }

pub returns-then-is_kept : goal.returns-then-is_kept
returns-then-is_kept c =
    record {
      answers =
          sym
          (check-by c.args.site.now c.args.plan.now false true true (le-ltb _ _ c.if-site-gt120.false) (le-leb _ _ c.if-plan-le8.true)
          (sym c.is_kept.ensures ∙ c.if-is_kept.true));
    }

pub returns-else-plan-le8 : goal.returns-else-plan-le8
returns-else-plan-le8 c =
    let s = c.args.site.now in
    let p = c.args.plan.now in
    let few = le-ltb _ _ c.if-site-gt120.false in
    elim c.else-plan-le8.branch [
      | else-plan-le8-via-then-plan-le8+else-is_kept w ↦ record {
        answers = sym (check-by s p false true false few (le-leb _ _ w.if-plan-le8.true) (sym w.is_kept.ensures ∙ w.if-is_kept.false));
      }
      | else-plan-le8-via-else-plan-le8 w ↦ record { answers = sym (check-by s p false false _ few (lt-leb _ _ w.if-plan-le8.false) refl) }
    ]
