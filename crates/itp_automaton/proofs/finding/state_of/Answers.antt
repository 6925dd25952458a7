use Rattle.std.proofs.Common.{◌≡◌, ℕ, ◌+◌, ◌<◌, List, length, take, get_or, subst}
use Rattle.std.proofs.lemmas.Bool.{false≢true}
use Rattle.nwa_base.specs.Members.{Member}
use Rattle.itp_automaton.proofs.StateLaws.{last_or_front, take_next}
use Rattle.itp_automaton.proofs.finding.state_of.Goals as goal

none_more : {X : Type 0} (xs : List X) (q : ℕ) (x y : X) → q < length xs → y ≡ get_or xs q y → (Member (take q xs) x → ⊥) → (y ≡ x → ⊥) → Member (take (q + 1) xs) x → ⊥
none_more xs q x y lt e h n m = last_or_front (take q xs) y x h n (subst (λ l. Member l x) (take_next xs q y lt e) m)

pub loop-q-preserved : goal.loop-q-preserved
loop-q-preserved c = none_more c.args.states.now c.loop-q.q c.args.pred.now c.index-states-q.result c.loop-q-test.true c.index-states-q.is c.loop-q.invariant (λ e. false≢true (c.if-is_same.ensures.same.1 e))
