use Rattle.std.proofs.Common.{◌∙◌, ℕ, List, ◌∷◌, [], ◌++◌, ap, refl}
use Rattle.nwa_base.specs.declared.letters.Kind.TheVariants as kinds
use Rattle.nwa_base.specs.declared.letters.Letter.{Letter}
use Rattle.letter_acts.specs.LetterTable.Letters.{Lettered}
use Rattle.letter_acts.proofs.LetterTable.AddedActs.{same_edges, on_err}
use Rattle.letter_acts.proofs.LetterTable.CallArcs.{call_added, nothing_added}
use Rattle.letter_acts.proofs.letter_table.table.Table.add_call.Goals as goal

pub returns-in_err-back-clause-kept : goal.returns-in_err-back-clause-kept
returns-in_err-back-clause-kept c =
    on_err c.from_residual-in_err-back.result
    (rw (← c.self.view_is)
    (same_edges _ _ _ (c.in_err-back.ensures.kept ∙ c.in_ok-call.ensures.added) refl c.reserve.ensures.items c.reserve-2.ensures.items))

pub returns-in_err-reserve-clause-kept : goal.returns-in_err-reserve-clause-kept
returns-in_err-reserve-clause-kept c = on_err c.from_residual.result (rw (← c.self.view_is) (nothing_added _ _ refl refl c.reserve.ensures.items refl))

pub returns-in_err-reserve-2-clause-kept : goal.returns-in_err-reserve-2-clause-kept
returns-in_err-reserve-2-clause-kept c =
    on_err c.from_residual-in_err-reserve-2.result (rw (← c.self.view_is) (nothing_added _ _ refl refl c.reserve.ensures.items c.reserve-2.ensures.items))

pub returns-in_err-call-clause-kept : goal.returns-in_err-call-clause-kept
returns-in_err-call-clause-kept c =
    on_err c.from_residual-in_err-call.result (rw (← c.self.view_is) (nothing_added _ _ c.in_err-call.ensures.kept refl c.reserve.ensures.items c.reserve-2.ensures.items))

pub returns-clause-added : goal.returns-clause-added
returns-clause-added c =
    let before : Lettered = record { acts = c.self.inside.letters; insides = c.self.inside.insides.items; calls = c.self.inside.calls.items; backs = c.self.inside.backs.items } in
    let after : Lettered = record { acts = c.number-2.new.self; insides = c.self.inside.insides.items; calls = c.push_reserved.new.self.items; backs = c.push_reserved-2.new.self.items } in
    rw (← c.self.view_is)
    (call_added before after c.number.new.self c.args.step.caller c.args.step.callee c.args.step.helpers c.args.step.rows.items c.args.step.coarse c.args.edges.from c.args.edges.to c.args.edges.exit c.args.edges.after
    c.in_ok-call.call c.in_ok-back.back c.args.targets.items c.in_ok-call.ensures.added c.in_ok-call.ensures.number c.in_ok-back.ensures.added c.in_ok-back.ensures.number refl
    (c.push_reserved.ensures.items ∙ ap (λ (xs : List (ℕ × Letter × ℕ)). xs ++ (c.args.edges.from, record { id = c.in_ok-call.call; kind = kinds.Call; call = 0 }, c.args.edges.to) ∷ []) c.reserve.ensures.items)
    (c.push_reserved-2.ensures.items ∙ ap (λ (xs : List (ℕ × ℕ × Letter × ℕ)). xs ++ (c.args.edges.exit, c.args.edges.from, record { id = c.in_ok-back.back; kind = kinds.Back; call = c.in_ok-call.call }, c.args.edges.after) ∷ []) c.reserve-2.ensures.items))
