use Rattle.std.proofs.Common.{◌∙◌, List, ap, sym, subst}
use Rattle.rayon.proofs.ListFacts.{IfOk-then}
use Rattle.letter_acts.specs.Acts.{Alphabet}
use Rattle.letter_acts.specs.Invariant.{alphabet_of}
use Rattle.triple_rows.specs.declared.triples.Scoped.{Scoped}
use Rattle.triple_rows.specs.Proofs.{PlainProof}
use Rattle.itp_automaton.specs.Settling.{IsFoundBy}
use Rattle.itp_automaton.proofs.SettlingLaws.{at_ok, all_found}
use Rattle.itp_automaton.proofs.settling.settle_letters.Goals as goal

pub returns : goal.returns
returns g c =
    at_ok c.collect.result _ c.in_ok-tried.tried _ c.collect.ensures c.in_ok-tried.was (λ v same h.
    IfOk-then c.gathered.result _ _ c.gathered.ensures (λ found e.
    all_found (λ l m. IsFoundBy (alphabet_of c.map.result.f.1.now) c.map.result.f.2.now c.map.result.f.3.now l m.items)
    (λ l m. IsFoundBy (alphabet_of c.args.icfg.now) c.args.states.now c.args.known.now l m.items)
    (λ l m k.
    subst (λ (al : Alphabet). IsFoundBy al c.args.states.now c.args.known.now l m.items) (ap (λ f. alphabet_of f.1.now) c.map.ensures.f)
    (subst (λ (ss : List Scoped). IsFoundBy (alphabet_of c.map.result.f.1.now) ss c.args.known.now l m.items) (ap (λ f. f.2.now) c.map.ensures.f)
    (subst (λ (ps : List PlainProof). IsFoundBy (alphabet_of c.map.result.f.1.now) c.map.result.f.2.now ps l m.items) (ap (λ f. f.3.now) c.map.ensures.f) k)))
    c.map.result.base.base.vec c.into_par_iter.result.vec c.args.letters.items h.1.0 h.0 v.items found.items
    (ap (λ it. it.base.vec) c.map.ensures.base ∙ ap (λ it. it.vec) c.with_min_len.ensures.base) c.into_par_iter.ensures h.1.1 h.1.2 h.2 (e ∙ ap (λ w. w.items) (sym same))))
