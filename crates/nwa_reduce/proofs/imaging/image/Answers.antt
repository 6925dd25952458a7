use Rattle.std.proofs.Common.{◌≡◌, ◌∙◌, ◌<◌, ℕ, Some, sym, ap, subst}
use Rattle.nwa_base.specs.Automata.{Automaton}
use Rattle.nwa_reduce.specs.Ties.Naming.{named}
use Rattle.nwa_reduce.proofs.MadeLemmas.{made_ok, bare_is}
use Rattle.nwa_reduce.proofs.imaging.image.Goals as goal

pub fill-requires-clause-start : goal.fill-requires-clause-start
fill-requires-clause-start c =
    ap (named c.args.names.now.of.items) (sym c.start.ensures) ∙ sym c.in-Some.ensures ∙
    ap (λ (z : Automaton). Some z.start) (sym (made_ok _ _ _ c.in_ok-image.ensures c.empty.ensures.value))

pub fill-requires-clause-bare : goal.fill-requires-clause-bare
fill-requires-clause-bare c =
    bare_is c.in_ok-image.image c.args.names.now.count c.in-Some.start (made_ok _ _ _ c.in_ok-image.ensures c.empty.ensures.value)

pub fill-requires-clause-within : goal.fill-requires-clause-within
fill-requires-clause-within c q x e =
    let states : c.in_ok-image.image.states ≡ c.args.names.now.count =
    ap (λ (z : Automaton). z.states) (made_ok _ _ _ c.in_ok-image.ensures c.empty.ensures.value) in
    subst (λ (n : ℕ). x < n) (sym states) (c.requires.within q x e)

pub returns : goal.returns
returns c = (
  c.in_ok-fill.ensures.0,
  c.in_ok-fill.ensures.1 ∙ ap (λ (z : Automaton). z.states) (made_ok _ _ _ c.in_ok-image.ensures c.empty.ensures.value),
)
