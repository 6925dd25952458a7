use Rattle.std.proofs.Common.{◌≡◌, ℕ, sym, ◌∙◌, subst}
use Rattle.std.specs.Prelude.{IfOk}
use Rattle.icfg_lower.proofs.CallJumps.PlaceLemmas.{helper_column, written_column}
use Rattle.icfg_lower.proofs.call_jumps.written.Written.column.Goals as goal

pub returns-in-None : goal.returns-in-None
returns-in-None c =
    let P : ℕ → Type 0 = λ z. IfOk c.column_behind.result (λ n. n ≡ z) in
    subst P (written_column c.args.self.now.helpers c.args.self.now.targeted.now c.args.number c.args.self.now.base c.args.place (sym c.found.ensures ∙ c.in-None.is)) c.column_behind.ensures

pub returns-in-Some : goal.returns-in-Some
returns-in-Some c =
    let P : ℕ → Type 0 = λ z. IfOk c.column_behind-in-Some.result (λ n. n ≡ z) in
    subst P (helper_column c.args.self.now.helpers c.args.self.now.targeted.now c.args.number c.in-Some.helper c.args.self.now.base c.args.place (sym c.found.ensures ∙ c.in-Some.is))
    c.column_behind-in-Some.ensures
