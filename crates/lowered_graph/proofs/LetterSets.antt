-- The letters and edges of arcs, from none on.
use Rattle.std.proofs.Common.{◌≡◌, ◌∙◌, ℕ, List, Some, inl, inr, sym, ap, subst}
use Rattle.std.specs.Prelude.{slice_get}
use Rattle.nwa_base.specs.Members.{Member}
use Rattle.nwa_base.specs.declared.letters.Letter.{Letter}
use Rattle.letter_acts.specs.Acts.{back_act, letter_of}
use Rattle.letter_acts.specs.LetterTable.Letters.{MarkedAct, exact_act, Arc, no_letters, lettered}
use Rattle.lowered_graph.specs.LetterLaws as law
use Rattle.lowered_graph.specs.LetterLaws.{InsideOf, CallOf, BackOf}
use Rattle.letter_acts.proofs.LetterTable.SameActs.{same_marked_so, same_marked_back}
use Rattle.lowered_graph.proofs.ActNumbers.{one_index}
use Rattle.lowered_graph.proofs.LetterEdges.{arcs_longer, arcs_distinct, insides_from, calls_from, backs_from, HasInside, HasCall, inside_lettered, call_lettered}

pub same_act_decides : law.SameActDecides
same_act_decides a b = (λ h. same_marked_so a b h, λ e. same_marked_back a b e)

pub acts_appended : law.ActsAreAppended
acts_appended d arcs = arcs_longer d arcs

pub acts_differ : law.ActsDiffer
acts_differ arcs = arcs_distinct no_letters arcs tt

-- of an act there is one letter
one_letter : (arcs : List Arc) (a : MarkedAct) (n : ℕ) (x : Letter) → slice_get (lettered arcs).acts n ≡ Some a → law.IsLetterOf (lettered arcs).acts a x → letter_of n a.act ≡ x
one_letter arcs a n x e l = ap (λ (i : ℕ). letter_of i a.act) (one_index (lettered arcs).acts n x.id a (acts_differ arcs) e l.0) ∙ sym l.1

inside_member : (arcs : List Arc) (q e : ℕ) (x : Letter) → InsideOf arcs (lettered arcs).acts q x e → Member (lettered arcs).insides (q, x, e)
inside_member arcs q e x h =
    let i : HasInside (lettered arcs) q h.act e = inside_lettered no_letters arcs q h.act e h.arc in
    subst (λ (y : Letter). Member (lettered arcs).insides (q, y, e)) (one_letter arcs h.act i.id x i.act h.letter) i.edge

pub insides_are : law.InsidesAreArcs
insides_are arcs q e x = (
  λ m. elim (insides_from no_letters arcs q x e m) [ inl none ↦ absurd none | inr h ↦ h ],
  λ h. inside_member arcs q e x h,
)

call_member : (arcs : List Arc) (q e : ℕ) (x : Letter) → CallOf arcs (lettered arcs).acts q x e → Member (lettered arcs).calls (q, x, e)
call_member arcs q e x h =
    let i : HasCall (lettered arcs) q h.act e h.from h.targets h.behind = call_lettered no_letters arcs q h.act e h.from h.targets h.behind h.arc in
    subst (λ (y : Letter). Member (lettered arcs).calls (q, y, e)) (one_letter arcs h.act i.id x i.act h.letter) i.edge

pub calls_are : law.CallsAreArcs
calls_are arcs q e x = (
  λ m. elim (calls_from no_letters arcs q x e m) [ inl none ↦ absurd none | inr h ↦ h ],
  λ h. call_member arcs q e x h,
)

back_member : (arcs : List Arc) (f q e : ℕ) (x : Letter) → BackOf arcs (lettered arcs).acts f q x e → Member (lettered arcs).backs (f, q, x, e)
back_member arcs f q e x h =
    let i : HasCall (lettered arcs) q h.act h.to f h.targets e = call_lettered no_letters arcs q h.act h.to f h.targets e h.arc in
    let called : i.id ≡ h.call = one_index (lettered arcs).acts i.id h.call h.act (acts_differ arcs) i.act h.called in
    let named : exact_act (back_act h.call h.targets) ≡ exact_act (back_act i.id h.targets) = ap (λ (c : ℕ). exact_act (back_act c h.targets)) (sym called) in
    let letter : law.IsLetterOf (lettered arcs).acts (exact_act (back_act i.id h.targets)) x = subst (λ (a : MarkedAct). law.IsLetterOf (lettered arcs).acts a x) named h.letter in
    subst (λ (y : Letter). Member (lettered arcs).backs (f, q, y, e)) (one_letter arcs (exact_act (back_act i.id h.targets)) i.back x i.back_is letter) i.back_edge

pub backs_are : law.BacksAreArcs
backs_are arcs f q e x = (
  λ m. elim (backs_from no_letters arcs f q x e m) [ inl none ↦ absurd none | inr h ↦ h ],
  λ h. back_member arcs f q e x h,
)
