use Rattle.std.proofs.Common.{◌≡◌, ◌∙◌, ℕ, ◌+◌, ◌<◌, List, [], ◌∷◌, ◌++◌, length, get_or, inl, inr, refl, sym, ap, subst, arith}
use Rattle.std.proofs.lemmas.Bool.{false≢true}
use Rattle.std.specs.List.{AllByRecursion}
use Rattle.nwa_base.specs.Members.{Member}
use Rattle.nwa_base.proofs.MemberLemmas.{member_front, member_rest}
use Rattle.letter_acts.specs.Acts.{Alphabet}
use Rattle.letter_acts.specs.Invariant.{alphabet_of}
use Rattle.triple_rows.specs.declared.triples.Scoped.{Scoped}
use Rattle.triple_rows.specs.Triples.{IsScoped}
use Rattle.itp_automaton.specs.Settling.{state_at, IsStateIn}
use Rattle.itp_automaton.proofs.StateLaws.{below_or_last, got_at}
use Rattle.itp_automaton.proofs.BuiltLaws.{all_push}
use Rattle.itp_automaton.proofs.SourceLaws.{state_stands}
use Rattle.itp_automaton.proofs.sources.states_in.Goals.{then-is_scoped+in_ok-push, else-is_scoped}
use Rattle.itp_automaton.proofs.sources.states_in.Goals as goal

record Found (al : Alphabet) (preds : List Scoped) (proc n : ℕ) (found : List ℕ) : Type 0 where
  each : AllByRecursion (IsStateIn al preds proc) found
  all : (q : ℕ) → q < n → IsStateIn al preds proc q → Member found q

one_more : (al : Alphabet) (preds : List Scoped) (proc n : ℕ) (found new : List ℕ) (s : Scoped) → Found al preds proc n found → n < length preds → s ≡ get_or preds n s → IsScoped al proc s → new ≡ found ++ n ∷ [] →
    Found al preds proc (n + 1) new
one_more al preds proc n found new s f lt e h is = record {
  each = subst (AllByRecursion (IsStateIn al preds proc)) (sym is) (all_push (IsStateIn al preds proc) found n f.each (record { below = lt; scoped = subst (λ (x : Scoped). IsScoped al proc x) (sym here) h }));
  all = λ q k i. subst (λ (l : List ℕ). Member l q) (sym is) (elim (below_or_last q n k) [
    | inl j ↦ member_front found (n ∷ []) q (f.all q j i)
    | inr j ↦ member_rest found (n ∷ []) q (inl (sym j))
  ]);
}
  where
    here : state_at preds n ≡ s
    here = state_stands preds n s (got_at preds n s lt e)

no_more : (al : Alphabet) (preds : List Scoped) (proc n : ℕ) (found new : List ℕ) (s : Scoped) → Found al preds proc n found → n < length preds → s ≡ get_or preds n s → (IsScoped al proc s → ⊥) → new ≡ found →
    Found al preds proc (n + 1) new
no_more al preds proc n found new s f lt e h is = record {
  each = subst (AllByRecursion (IsStateIn al preds proc)) (sym is) f.each;
  all = λ q k i. subst (λ (l : List ℕ). Member l q) (sym is) (elim (below_or_last q n k) [
    | inl j ↦ f.all q j i
    | inr j ↦ absurd (h (subst (λ (x : Scoped). IsScoped al proc x) (ap (state_at preds) j ∙ here) i.scoped))
  ]);
}
  where
    here : state_at preds n ≡ s
    here = state_stands preds n s (got_at preds n s lt e)

pub loop-q-preserved : goal.loop-q-preserved
loop-q-preserved c =
    let al = alphabet_of c.args.icfg.now in
    let f : Found al c.args.states.now c.args.proc c.loop-q.q c.loop-q.found.items = record { each = c.loop-q.invariant.each; all = c.loop-q.invariant.all } in
    let r : Found al c.args.states.now c.args.proc (c.loop-q.q + 1) c.if-is_scoped.found.items = elim c.if-is_scoped.branch [
      | then-is_scoped+in_ok-push w ↦ one_more al c.args.states.now c.args.proc c.loop-q.q c.loop-q.found.items c.if-is_scoped.found.items c.index-states-q.result f c.loop-q-test.true c.index-states-q.is
          (w.if-is_scoped.ensures.0 refl) (ap (λ v. v.items) w.found-is ∙ w.in_ok-push.ensures.items)
      | else-is_scoped w ↦ no_more al c.args.states.now c.args.proc c.loop-q.q c.loop-q.found.items c.if-is_scoped.found.items c.index-states-q.result f c.loop-q-test.true c.index-states-q.is
          (λ h. false≢true (w.if-is_scoped.ensures.1 h)) (ap (λ v. v.items) w.found-is)
    ] in
    record { each = r.each; all = r.all }

pub returns : goal.returns
returns c = record {
  each = c.loop-q.invariant.each;
  all = λ q i. let lt : q < length c.args.states.now = i.below in c.loop-q.invariant.all q (omega arith) i;
}
