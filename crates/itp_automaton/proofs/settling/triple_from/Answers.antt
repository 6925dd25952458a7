use Rattle.std.proofs.Common.{◌≡◌, ◌∙◌, ◌<◌, ℕ, zero, suc, List, [], ◌∷◌, length, get_or, sym, ap, subst, arith}
use Rattle.triple_rows.specs.declared.triples.Scoped.{Scoped}
use Rattle.triple_rows.specs.declared.triples.Triple.TheVariants as triples
use Rattle.itp_automaton.specs.declared.sources.Source.{Source}
use Rattle.itp_automaton.specs.declared.sources.Source.TheVariants.{Inside, Call, Back}
use Rattle.itp_automaton.specs.Settling.{IsWithin, state_at, triple_from}
use Rattle.itp_automaton.proofs.settling.triple_from.Goals as goal

-- the state that was read and copied is the one at its number
state_read : (states : List Scoped) (q : ℕ) (s copy : Scoped) → q < length states → copy ≡ s → s ≡ get_or states q s → copy ≡ state_at states q
state_read [] q s copy l f e = absurd (omega (arith, l))
state_read (x ∷ xs) zero s copy l f e = f ∙ e
state_read (x ∷ xs) (suc q) s copy l f e = state_read xs q s copy (omega (arith, l)) f e

inside_from : (states : List Scoped) (source : Source) (q letter : ℕ) (from to after : Scoped) → source ≡ Inside q → from ≡ state_at states q → to ≡ after →
    triples.Inside from letter to ≡ triple_from states source letter after
inside_from states source q letter from to after e f h =
    ap (λ (x : Scoped). triples.Inside x letter to) f ∙ ap (λ (y : Scoped). triples.Inside (state_at states q) letter y) h ∙ ap (λ (s : Source). triple_from states s letter after) (sym e)

call_from : (states : List Scoped) (source : Source) (q letter : ℕ) (from to after : Scoped) → source ≡ Call q → from ≡ state_at states q → to ≡ after →
    triples.Call from letter to ≡ triple_from states source letter after
call_from states source q letter from to after e f h =
    ap (λ (x : Scoped). triples.Call x letter to) f ∙ ap (λ (y : Scoped). triples.Call (state_at states q) letter y) h ∙ ap (λ (s : Source). triple_from states s letter after) (sym e)

back_from : (states : List Scoped) (source : Source) (q p letter : ℕ) (exit before to after : Scoped) → source ≡ Back q p → exit ≡ state_at states q → before ≡ state_at states p → to ≡ after →
    triples.Back exit before letter to ≡ triple_from states source letter after
back_from states source q p letter exit before to after e f g h =
    ap (λ (x : Scoped). triples.Back x before letter to) f ∙ ap (λ (x : Scoped). triples.Back (state_at states q) x letter to) g ∙
    ap (λ (y : Scoped). triples.Back (state_at states q) (state_at states p) letter y) h ∙ ap (λ (s : Source). triple_from states s letter after) (sym e)

pub returns-in_ok-from-in-Inside : goal.returns-in_ok-from-in-Inside
returns-in_ok-from-in-Inside c =
    let w = subst (IsWithin (length c.args.states.now)) c.in-Inside.is c.requires in
    inside_from c.args.states.now c.args.source c.in-Inside.q c.args.letter c.in_ok-from-in-Inside.from c.in_ok-to.to c.args.after.now c.in-Inside.is
    (state_read c.args.states.now c.in-Inside.q c.index-states-q.result c.in_ok-from-in-Inside.from w c.in_ok-from-in-Inside.ensures c.index-states-q.is) c.in_ok-to.ensures

pub returns-in_ok-from-in-Call : goal.returns-in_ok-from-in-Call
returns-in_ok-from-in-Call c =
    let w = subst (IsWithin (length c.args.states.now)) c.in-Call.is c.requires in
    call_from c.args.states.now c.args.source c.in-Call.q c.args.letter c.in_ok-from-in-Call.from c.in_ok-to.to c.args.after.now c.in-Call.is
    (state_read c.args.states.now c.in-Call.q c.index-states-q-in-Call.result c.in_ok-from-in-Call.from w c.in_ok-from-in-Call.ensures c.index-states-q-in-Call.is) c.in_ok-to.ensures

pub returns-in_ok-before-in-Back : goal.returns-in_ok-before-in-Back
returns-in_ok-before-in-Back c =
    let w = subst (IsWithin (length c.args.states.now)) c.in-Back.is c.requires in
    back_from c.args.states.now c.args.source c.in-Back.q c.in-Back.p c.args.letter c.in_ok-exit-in-Back.exit c.in_ok-before-in-Back.before c.in_ok-to.to c.args.after.now c.in-Back.is
    (state_read c.args.states.now c.in-Back.q c.index-states-q-in-Back.result c.in_ok-exit-in-Back.exit w.0 c.in_ok-exit-in-Back.ensures c.index-states-q-in-Back.is)
    (state_read c.args.states.now c.in-Back.p c.index-states-p.result c.in_ok-before-in-Back.before w.1 c.in_ok-before-in-Back.ensures c.index-states-p.is) c.in_ok-to.ensures
