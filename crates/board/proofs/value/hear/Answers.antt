-- `board::value::hear` meets its contract, on whatever board the row was found: 38, refused before the reply is read, or as the frame answers for the row.
use Rattle.std.proofs.Common.{◌∙◌, refl, sym, ap, subst}
use Rattle.frame.specs.declared.faults.Fault.TheVariants.{BadAddress, BadForm, Unknown}
use Rattle.board.proofs.OneRow.{no-other}
use Rattle.board.proofs.Hearing.{hear-refuses, hear-changes, hears-on, hears-none}
use Rattle.board.proofs.Faults.{not-11, not-14, not-17}
use Rattle.board.proofs.Numbers.{hear-11, hear-14, hear-17}
use Rattle.board.specs.declared.Row.{Row}
use Rattle.board.specs.Inside.ByValue.{RowAt, hearing_of}
use Rattle.board.proofs.value.hear.Goals as goal

pub returns-in_default : goal.returns-in_default
returns-in_default c = hears-none _ _ _ _ _ (no-other c.args.found c.in_default.not-Some)

pub returns-then-address-gt999 : goal.returns-then-address-gt999
returns-then-address-gt999 c =
    hears-on _ _ _ _ _ _ _ c.in-Some.is
    (λ board sees. hear-refuses board _ _ _ _ BadAddress refl refl not-11 refl (hear-11 board _ _ _ c.if-address-gt999.true))

pub returns-then-not-formed : goal.returns-then-not-formed
returns-then-not-formed c =
    hears-on _ _ _ _ _ _ _ c.in-Some.is
    (λ board sees. hear-refuses board _ _ _ _ BadForm refl refl not-14 refl (hear-14 board _ _ _ c.if-address-gt999.false (sym c.formed.ensures ∙ c.if-not-formed.true)))

pub returns-in_default-row : goal.returns-in_default-row
returns-in_default-row c =
    hears-on _ _ _ _ _ _ _ c.in-Some.is
    (λ board sees.
    let off = subst (RowAt board c.args.address c.in-Some.f.spot) (no-other c.in-Some.f.row c.in_default-row.not-Some) sees.row in
    hear-refuses board _ _ _ _ Unknown refl refl not-17 refl (hear-17 board _ _ _ c.if-address-gt999.false (sym c.formed.ensures ∙ c.if-not-formed.false) off))

pub returns : goal.returns
returns c =
    hears-on _ _ _ _ _ _ _ c.in-Some.is
    (λ board sees.
    let stands = subst (RowAt board c.args.address c.in-Some.f.spot) c.in-Some-row.is sees.row in
    hear-changes board _ _ _ _ c.in-Some.f.spot c.in-Some-row.row c.read_reply-answer.result c.of.result stands c.if-address-gt999.false (sym c.formed.ensures ∙ c.if-not-formed.false) c.read_reply-answer.ensures.answers
    (c.of.ensures ∙ ap (λ (y : Row). hearing_of c.in-Some.f.spot y c.args.minute c.read_reply-answer.result) c.heard_at.ensures))
