use Rattle.std.proofs.Common.{◌≡◌, ℕ, suc, ◌-◌, List, [], ◌∷◌, map, sym, ap, ◌∙◌, subst, arith}
use Rattle.std.proofs.lemmas.List.{map-append}
use Rattle.fm_elim.specs.Answers.{aside_of, eliminated_of}
use Rattle.fm_elim.specs.Columns.{SetAside, EliminationStepFits}
use Rattle.fm_elim.specs.Elimination.{SolveFits}
use Rattle.fm_elim.specs.Ties.Climb.{IsDown, IsBottom, bottom_of}
use Rattle.fm_elim.proofs.Climbing.{down_more, down_end, down_past}
use Rattle.fm_elim.proofs.Exits.{exit_step}
use Rattle.fm_elim.proofs.FreeColumns.{down_set}
use Rattle.fm_elim.proofs.descent.go_down.Goals as goal

pub columns-preserved : goal.columns-preserved
columns-preserved c =
    let h = rw c.deref.ensures.value at c.in_default.ensures in
    let f = rw c.deref-in-columns.ensures.value at c.columns_used-used.ensures.free in
    let k : ℕ = c.columns_used-used.result - 1 in
    let l : c.columns_used-used.result ≡ suc k = omega arith in
    let s : IsDown c.args.columns c.args.rows.items c.columns_used-used.result c.columns.rows.items (map aside_of c.set_free.new.asides.items) =
    down_set c.args.columns c.args.rows.items c.columns.left c.columns_used-used.result c.columns.rows.items c.columns.asides.items c.set_free.new.asides.items
    c.columns.invariant c.columns_used-used.ensures.bound h f c.in_ok-set_free.ensures in
    let d = down_more c.args.columns c.args.rows.items c.columns_used-used.result k c.columns.rows.items (map aside_of c.set_free.new.asides.items)
    (eliminated_of c.in_ok-next.next) s l h c.in_ok-next.ensures in
    subst (λ (xs : List SetAside). IsDown c.args.columns c.args.rows.items k c.in_ok-next.next.rows.items xs)
    (sym (ap (λ xs. map aside_of xs) c.in_ok-push.ensures.items ∙ map-append aside_of c.set_free.new.asides.items (c.in_ok-next.next.aside ∷ [])))
    d

pub returns-then-left-eq0 : goal.returns-then-left-eq0
returns-then-left-eq0 c =
    let h = rw c.deref.ensures.value at c.in_default.ensures in
    let f = rw c.deref-in-columns.ensures.value at c.columns_used-used.ensures.free in
    let s : IsDown c.args.columns c.args.rows.items c.columns_used-used.result c.columns.rows.items (map aside_of c.set_free.new.asides.items) =
    down_set c.args.columns c.args.rows.items c.columns.left c.columns_used-used.result c.columns.rows.items c.columns.asides.items c.set_free.new.asides.items
    c.columns.invariant c.columns_used-used.ensures.bound h f c.in_ok-set_free.ensures in
    down_end c.args.columns c.args.rows.items c.columns_used-used.result c.columns.rows.items (map aside_of c.set_free.new.asides.items) s c.if-left-eq0.true h

pub returns-in_err-next : goal.returns-in_err-next
returns-in_err-next c =
    let h = rw c.deref.ensures.value at c.in_default.ensures in
    let f = rw c.deref-in-columns.ensures.value at c.columns_used-used.ensures.free in
    let k : ℕ = c.columns_used-used.result - 1 in
    let l : c.columns_used-used.result ≡ suc k = omega arith in
    let s : IsDown c.args.columns c.args.rows.items c.columns_used-used.result c.columns.rows.items (map aside_of c.set_free.new.asides.items) =
    down_set c.args.columns c.args.rows.items c.columns.left c.columns_used-used.result c.columns.rows.items c.columns.asides.items c.set_free.new.asides.items
    c.columns.invariant c.columns_used-used.ensures.bound h f c.in_ok-set_free.ensures in
    exit_step c.from_residual-in_err-next.result (λ b. IsBottom c.args.columns c.args.rows.items (map aside_of b.asides.items) (bottom_of b.refuted))
    (SolveFits c.args.columns c.args.rows.items) (EliminationStepFits k c.columns.rows.items) c.in_err-next.field-0.0
    (down_past c.args.columns c.args.rows.items c.columns_used-used.result k c.columns.rows.items (map aside_of c.set_free.new.asides.items) s l h)
    c.in_err-next.ensures c.from_residual-in_err-next.ensures.1
