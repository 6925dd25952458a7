use Rattle.std.proofs.Common.{◌↔◌, ℕ, ℤ, sym, subst}
use Rattle.std.specs.Prelude.{IfOk}
use Rattle.lin_rows.specs.Systems.{Meets}
use Rattle.letter_acts.specs.Invariant.{alphabet_of}
use Rattle.triple_rows.specs.declared.triples.Triple.{Triple}
use Rattle.triple_rows.specs.declared.triples.Triple.TheVariants.{Inside, Call, Back}
use Rattle.triple_rows.specs.Triples.{Agrees, IsValid}
use Rattle.triple_rows.proofs.LetterLaws.{exact_where_made}
use Rattle.triple_rows.proofs.systems.systems_of.Goals as goal

pub returns-in-Inside-clause-exact : goal.returns-in-Inside-clause-exact
returns-in-Inside-clause-exact c =
    let g = c.args.icfg.now in
    let w = c.in-Inside in
    subst (λ (t : Triple). IfOk c.inside_system.result (λ s. ((point : ℕ → ℤ) → Meets point s → ⊥) ↔ IsValid (alphabet_of g) t)) (sym w.is)
    (exact_where_made c.inside_system.result g (Inside w.from w.letter w.to) (subst (Agrees (alphabet_of g)) w.is c.requires) c.inside_system.ensures.known c.inside_system.ensures.value)

pub returns-in-Call-clause-exact : goal.returns-in-Call-clause-exact
returns-in-Call-clause-exact c =
    let g = c.args.icfg.now in
    let w = c.in-Call in
    subst (λ (t : Triple). IfOk c.call_system.result (λ s. ((point : ℕ → ℤ) → Meets point s → ⊥) ↔ IsValid (alphabet_of g) t)) (sym w.is)
    (exact_where_made c.call_system.result g (Call w.from w.letter w.to) (subst (Agrees (alphabet_of g)) w.is c.requires) c.call_system.ensures.known c.call_system.ensures.value)

pub returns-in-Back-clause-exact : goal.returns-in-Back-clause-exact
returns-in-Back-clause-exact c =
    let g = c.args.icfg.now in
    let w = c.in-Back in
    subst (λ (t : Triple). IfOk c.back_system.result (λ s. ((point : ℕ → ℤ) → Meets point s → ⊥) ↔ IsValid (alphabet_of g) t)) (sym w.is)
    (exact_where_made c.back_system.result g (Back w.exit w.before w.letter w.to) (subst (Agrees (alphabet_of g)) w.is c.requires) c.back_system.ensures.known c.back_system.ensures.value)
