-- The unwinding that is built is one that an annotation may say.
use Rattle.std.proofs.Common.{◌≡◌, ◌∙◌, ℕ, ◌<◌, List, [], ◌∷◌, length, Bor, refl, sym, ap, subst, inl}
use Rattle.std.specs.Prelude.{map, Result, Ok, Err, IfOk, slice_get}
use Rattle.std.specs.declared.alloc.AllocError.{AllocError}
use Rattle.std.specs.List.{AllByRecursion}
use Rattle.nwa_base.specs.Members.{Member}
use Rattle.nwa_base.specs.Automata.{Automaton, IsAutomaton}
use Rattle.nwa_base.proofs.MemberLemmas.{member_map, member_from_map}
use Rattle.letter_acts.specs.Invariant.{Graph, IsGraph, alphabet_of, AreDistinct}
use Rattle.letter_acts.specs.Kept.{Keeps}
use Rattle.triple_rows.specs.declared.triples.Scoped.{Scoped}
use Rattle.hoare_check.specs.Decided.{IsProofFor}
use Rattle.itp_automaton.specs.Certified.{Certificate, IsCertified}
use Rattle.proof_form.specs.Annotations.{Content}
use Rattle.proof_names.specs.Items.{Names}
use Rattle.proof_names.specs.declared.outlines.Listed.{Listed}
use Rattle.proof_names.specs.declared.outlines.NamedTriple.{NamedTriple}
use Rattle.proof_names.specs.declared.outlines.NamedStep.{NamedStep}
use Rattle.proof_names.specs.Outlines.{OutlineNode, Sketch}
use Rattle.proof_names.specs.declared.proof_spell.drafts.Shown.{Shown}
use Rattle.proof_names.specs.ProofSpell.Correspond.{Correspond}
use Rattle.proof_names.specs.ProofSpell.Drafts.{PlainShown, plain, MayBeShown, MayBeSpelled}
use Rattle.proof_names.specs.ProofSpell.Spelled.{SpellsPred, SpellsTriple, Spells, IsOutlined, Outlines}
use Rattle.proof_check.specs.Proves.{Proves}
use Rattle.proof_build.specs.declared.proof_unwind.unwinding.Unwound.{Unwound}
use Rattle.proof_build.specs.ProofUnwind.Spots.{nodes_of}
use Rattle.proof_build.specs.ProofUnwind.Unwindings.{Spreads}
use Rattle.proof_build.specs.ProofUnwind.Exploring.{IsExploring, AreOpened}
use Rattle.proof_build.specs.ProofUnwind.Renumbering.{PlacesAscend}
use Rattle.proof_build.specs.Unwindings.{draft_of}
use Rattle.proof_build.specs.Unwound.{AreCovering, IsUnwound}
use Rattle.proof_build.specs.Ties.Built.{unwinding_of, IsUnwoundBy}
use Rattle.proof_build.specs.Numbering.{StartHasBody, AreListed, AreAllNumbered}
use Rattle.proof_build.specs.Sketches.{Says, IsReachable, AreReachable, AreInOrder, IsUsed, AreUsed, AreOnce}
use Rattle.proof_build.specs.Ties.Listing.{AreTriplesOf, listed_in, AreNeededOnce}
use Rattle.proof_build.specs.Ties.Needs.{AreNeeded}
use Rattle.proof_build.specs.Ties.Unions.{IsUnionOf}
use Rattle.proof_build.proofs.ScopeLaws.{all_of_member, all_from_members, may_be_spelled}
use Rattle.proof_build.proofs.ProvingLaws.{proves}
use Rattle.proof_build.proofs.TripleLaws.{one_may}
use Rattle.proof_build.proofs.SpreadLaws.{certificate_spreads, steps_shown}
use Rattle.proof_build.proofs.ReachLaws.{all_reached}

abbrev automata_of : List Certificate → List Automaton
automata_of cs = map (λ (c : Certificate). c.automaton) cs

all_may : (g : Graph) (preds : List Scoped) (cs : List Certificate) (needed : List Listed) (shown : List PlainShown) → AllByRecursion (IsCertified (alphabet_of g)) cs →
    AreTriplesOf preds cs needed shown → AllByRecursion (MayBeShown g preds) shown
all_may g preds cs needed shown k ts = all_from_members (MayBeShown g preds) shown (λ t m.
    let e = ts.each t m in
    one_may g preds e.0.proofs t (λ p n. all_of_member (IsProofFor (alphabet_of g)) e.0.proofs p (all_of_member (IsCertified (alphabet_of g)) cs e.0 k e.1).proofs n) e.2)

pub unwound : (g : Graph) (preds : List Scoped) (cs : List Certificate) (union : Automaton) (nodes : List OutlineNode) (steps : Automaton) (needed : List Listed) (shown : List PlainShown) → IsGraph g →
    IsAutomaton g.automaton → AllByRecursion (IsCertified (alphabet_of g)) cs → StartHasBody g → AreListed g preds → AreAllNumbered g preds cs → IsUnionOf preds cs union →
    AreNeeded union nodes steps needed → AreTriplesOf preds cs needed shown → IsExploring g.automaton union nodes steps → AreOpened g.automaton nodes steps (length nodes) →
    IsUnwound g (automata_of cs) (record { preds = preds; triples = shown; nodes = nodes; steps = steps })
unwound g preds cs union nodes steps needed shown i m k b l n u d ts e o = record {
  start = e.first;
  along = e.along;
  closed = record { insides = o.insides; calls = o.calls; backs = o.backs };
  shown = steps_shown g preds cs union nodes steps i m k b l n u e needed d shown ts;
  tree = e.tree;
  part = e.part;
  reached = e.reached;
  spread = λ a f.
      (let c = member_from_map (λ (x : Certificate). x.automaton) cs a f in
      subst (λ (x : Automaton). (number : ℕ → ℕ) × Spreads x e.tree nodes number) c.2 (certificate_spreads g preds cs union nodes steps i m k b l n u e c.0 c.1));
  preds = l.named;
  triples = all_may g preds cs needed shown k ts;
  ascend = e.ascend;
}

-- ---- the functions

pub starts : (g : Graph) → Keeps g → g.automaton.start ≡ 0
unfolding Keeps
starts g k = k.procedures.start

graph_of : (g : Graph) → Keeps g → IsGraph g
unfolding Keeps
graph_of g k = k

pub unwound_is : (g : Graph) (graph : Automaton) (union : Automaton) (found : Unwound) (r : Result Unwound AllocError) → Keeps g → IsAutomaton g.automaton → graph ≡ g.automaton →
    IsExploring graph union (nodes_of found.nodes.items) found.steps → AreOpened graph (nodes_of found.nodes.items) found.steps (length (nodes_of found.nodes.items)) →
    IfOk r (λ u. (m b : Automaton) → IsExploring m b (nodes_of found.nodes.items) found.steps → IsExploring m b (nodes_of u.nodes.items) u.steps) →
    IfOk r (λ u. (m b : Automaton) → IsExploring m b (nodes_of found.nodes.items) found.steps → AreOpened m (nodes_of found.nodes.items) found.steps (length (nodes_of found.nodes.items)) →
    AreOpened m (nodes_of u.nodes.items) u.steps (length (nodes_of u.nodes.items))) →
    IfOk r (λ u. PlacesAscend (nodes_of u.nodes.items)) → IfOk r (IsUnwoundBy g union)
unwound_is g graph union found (Ok u) k m e x o y p l = record {
  graph = k;
  automaton = m;
  exploring = subst (λ (a : Automaton). IsExploring a union (nodes_of u.nodes.items) u.steps) e (y graph union x);
  opened = subst (λ (a : Automaton). AreOpened a (nodes_of u.nodes.items) u.steps (length (nodes_of u.nodes.items))) e (p graph union x o);
  ascend = l;
}
unwound_is g graph union found (Err f) k m e x o y p l = tt

-- what the parts give
pub record AreParts (g : Graph) (cs : List Certificate) (preds : List Scoped) (triples : List Shown) (u : Unwound) : Type 0 where
  pub certified : AllByRecursion (IsCertified (alphabet_of g)) cs
  pub body : StartHasBody g
  pub listed : AreListed g preds
  pub numbered : AreAllNumbered g preds cs
  pub union : Automaton
  pub united : IsUnionOf preds cs union
  pub unwound : IsUnwoundBy g union u
  pub needed : List Listed
  pub need : AreNeeded union (nodes_of u.nodes.items) u.steps needed
  pub shown : AreTriplesOf preds cs needed (map plain triples)
  pub once : AreNeededOnce needed (map plain triples)

parts_unwound : (g : Graph) (cs : List Certificate) (preds : List Scoped) (triples : List Shown) (u : Unwound) → AreParts g cs preds triples u → IsUnwound g (automata_of cs) (unwinding_of preds triples u)
parts_unwound g cs preds triples u p =
    unwound g preds cs p.union (nodes_of u.nodes.items) u.steps p.needed (map plain triples) (graph_of g p.unwound.graph) p.unwound.automaton p.certified p.body p.listed p.numbered p.united
    p.need p.shown p.unwound.exploring p.unwound.opened

pub parts_may : (g : Graph) (cs : List Certificate) (preds other : List Scoped) (triples same : List Shown) (u : Unwound) → AreParts g cs preds triples u → other ≡ preds → same ≡ triples →
    MayBeSpelled g (draft_of (unwinding_of other same u))
parts_may g cs preds other triples same u p e f =
    subst (λ (l : List Scoped). MayBeSpelled g (draft_of (unwinding_of l same u))) (sym e)
    (subst (λ (l : List Shown). MayBeSpelled g (draft_of (unwinding_of preds l u))) (sym f)
    (may_be_spelled g (automata_of cs) (unwinding_of preds triples u) (graph_of g p.unwound.graph) p.unwound.automaton (parts_unwound g cs preds triples u p)))

one_proves : (g : Graph) (cs : List Certificate) (preds other : List Scoped) (triples same : List Shown) (u : Unwound) (a : Content) → AreParts g cs preds triples u → other ≡ preds → same ≡ triples →
    AreCovering g.automaton (automata_of cs) → (s : Sketch) × Names g a s × Outlines g s (draft_of (unwinding_of other same u)) → Proves g a
one_proves g cs preds other triples same u a p e f v n =
    let o : Outlines g n.0 (draft_of (unwinding_of preds triples u)) =
    subst (λ (l : List Scoped). Outlines g n.0 (draft_of (unwinding_of l triples u))) e (subst (λ (l : List Shown). Outlines g n.0 (draft_of (unwinding_of other l u))) f n.2) in
    proves g (automata_of cs) (unwinding_of preds triples u) (graph_of g p.unwound.graph) p.unwound.automaton (parts_unwound g cs preds triples u p) n.0 o v a n.1

map_twice : {X Y Z : Type 0} (f : X → Y) (h : Y → Z) (xs : List X) → map h (map f xs) ≡ map (λ (x : X). h (f x)) xs
map_twice f h [] = refl
map_twice f h (x ∷ xs) = ap (λ (l : List _). h (f x) ∷ l) (map_twice f h xs)

pub covering_by : (g : Graph) (automata : List (Bor Certificate)) → AreCovering g.automaton (map (λ (r : Bor Certificate). r.now.automaton) automata) →
    AreCovering g.automaton (automata_of (map (λ (r : Bor Certificate). r.now) automata))
covering_by g automata v =
    subst (λ (l : List Automaton). AreCovering g.automaton l) (sym (map_twice (λ (r : Bor Certificate). r.now) (λ (c : Certificate). c.automaton) automata)) v

pub all_prove : (g : Graph) (cs : List Certificate) (preds other : List Scoped) (triples same : List Shown) (u : Unwound) (r : Result Content AllocError) → AreParts g cs preds triples u → other ≡ preds →
    same ≡ triples → AreCovering g.automaton (automata_of cs) → IfOk r (λ a. (s : Sketch) × Names g a s × Outlines g s (draft_of (unwinding_of other same u))) → IfOk r (Proves g)
all_prove g cs preds other triples same u (Ok a) p e f v n = one_proves g cs preds other triples same u a p e f v n
all_prove g cs preds other triples same u (Err x) p e f v n = tt

-- ---- without automata

none_correspond : {X Y : Type 0} (R : X → Y → Type 0) (xs : List X) (ys : List Y) → Correspond R xs ys → ys ≡ [] → xs ≡ []
none_correspond R [] ys h e = refl
none_correspond R (x ∷ xs) [] h e = absurd h
none_correspond R (x ∷ xs) (y ∷ ys) h e = absurd (cc)

no_shown : (preds : List Scoped) (cs : List Certificate) (needed : List Listed) (shown : List PlainShown) → AreTriplesOf preds cs needed shown → cs ≡ [] → shown ≡ []
no_shown preds cs needed [] t e = refl
no_shown preds cs needed (s ∷ shown) t e = let k = t.each s (inl refl) in absurd (subst (λ (l : List Certificate). Member l k.0) e k.1)

none_spelled : (g : Graph) (preds other : List Scoped) (triples same : List Shown) (u : Unwound) (a : Content) → other ≡ preds → same ≡ triples → preds ≡ [] → map plain triples ≡ [] →
    Spells g a (draft_of (unwinding_of other same u)) → (a.preds ≡ []) × (a.triples ≡ [])
none_spelled g preds other triples same u a e f p t s =
    (none_correspond (SpellsPred g) a.preds other s.preds (e ∙ p), none_correspond SpellsTriple a.triples (map plain same) s.triples (ap (map plain) f ∙ t))

pub none_at_all : (g : Graph) (automata : List (Bor Certificate)) (preds other : List Scoped) (triples same : List Shown) (u : Unwound) (r : Result Content AllocError) →
    AreParts g (map (λ (b : Bor Certificate). b.now) automata) preds triples u → other ≡ preds → same ≡ triples → (automata ≡ [] → preds ≡ []) →
    IfOk r (λ a. Spells g a (draft_of (unwinding_of other same u))) → IfOk r (λ a. automata ≡ [] → (a.preds ≡ []) × (a.triples ≡ []))
none_at_all g automata preds other triples same u (Ok a) p e f n s = λ k.
    none_spelled g preds other triples same u a e f (n k)
    (no_shown preds (map (λ (b : Bor Certificate). b.now) automata) p.needed (map plain triples) p.shown (ap (map (λ (b : Bor Certificate). b.now)) k)) s
none_at_all g automata preds other triples same u (Err x) p e f n s = tt

pub parts_are : (g : Graph) (cs : List Certificate) (preds one two : List Scoped) (union : Automaton) (needed : List Listed) (triples : List Shown) (u : Unwound) →
    AllByRecursion (IsCertified (alphabet_of g)) cs → StartHasBody g → AreListed g preds → AreAllNumbered g preds cs → one ≡ preds → IsUnionOf one cs union → IsUnwoundBy g union u →
    AreNeeded union (nodes_of u.nodes.items) u.steps needed → two ≡ preds → AreTriplesOf two cs needed (map plain triples) → AreNeededOnce needed (map plain triples) → AreParts g cs preds triples u
parts_are g cs preds one two union needed triples u c b l n d v w k e t o = record {
  certified = c;
  body = b;
  listed = l;
  numbered = n;
  union = union;
  united = subst (λ (p : List Scoped). IsUnionOf p cs union) d v;
  unwound = w;
  needed = needed;
  need = k;
  shown = subst (λ (p : List Scoped). AreTriplesOf p cs needed (map plain triples)) e t;
  once = o;
}

-- ---- what the annotation says

abbrev SaysOutlined : Graph → List Scoped → List Shown → Unwound → Content → Type 0
SaysOutlined g preds triples u a = (s : Sketch) × Names g a s × Outlines g s (draft_of (unwinding_of preds triples u))

-- what is so of each sketch that says the draft is so of the one that the lines name
pub says : (g : Graph) (preds : List Scoped) (triples : List Shown) (u : Unwound) (P : Sketch → Type 0) (r : Result Content AllocError) →
    ((s : Sketch) → Outlines g s (draft_of (unwinding_of preds triples u)) → P s) → IfOk r (SaysOutlined g preds triples u) → IfOk r (Says g P)
says g preds triples u P (Ok a) f o = (o.0, o.1, f o.0 o.2)
says g preds triples u P (Err x) f o = tt

pub reached_said : (g : Graph) (cs : List Certificate) (preds other : List Scoped) (triples same : List Shown) (u : Unwound) → AreParts g cs preds triples u → (s : Sketch) →
    Outlines g s (draft_of (unwinding_of other same u)) → AreReachable s
reached_said g cs preds other triples same u p s o = λ n l.
    subst (λ (ts : List NamedStep). IsReachable ts n) (sym o.steps)
    (all_reached (nodes_of u.nodes.items) u.steps p.unwound.exploring.tree p.unwound.exploring.part p.unwound.exploring.reached n (subst (λ (xs : List OutlineNode). n < length xs) o.nodes l))

pub order_said : (g : Graph) (cs : List Certificate) (preds other : List Scoped) (triples same : List Shown) (u : Unwound) → AreParts g cs preds triples u → (s : Sketch) →
    Outlines g s (draft_of (unwinding_of other same u)) → AreInOrder s
order_said g cs preds other triples same u p s o = subst (λ (xs : List OutlineNode). PlacesAscend xs) (sym o.nodes) p.unwound.ascend

-- the numbers of outlined triples are those of the draft
numbers_outlined : (g : Graph) (preds : List Scoped) (os : List NamedTriple) (ts : List PlainShown) → Correspond (IsOutlined g (slice_get preds)) os ts → map (λ (t : NamedTriple). t.listed) os ≡ listed_in ts
numbers_outlined g preds [] [] c = refl
numbers_outlined g preds [] (t ∷ ts) c = absurd c
numbers_outlined g preds (o ∷ os) [] c = absurd c
numbers_outlined g preds (o ∷ os) (t ∷ ts) c = let h = c.0.listed in let r = numbers_outlined g preds os ts c.1 in λ i. h i ∷ r i

pub once_said : (g : Graph) (cs : List Certificate) (preds other : List Scoped) (triples same : List Shown) (u : Unwound) → AreParts g cs preds triples u → same ≡ triples → (s : Sketch) →
    Outlines g s (draft_of (unwinding_of other same u)) → AreOnce s
once_said g cs preds other triples same u p e s o =
    subst (λ (l : List Listed). AreDistinct l) (sym (numbers_outlined g other s.triples (map plain same) o.triples ∙ ap (λ (l : List Shown). listed_in (map plain l)) e)) p.once.once

pub used_said : (g : Graph) (cs : List Certificate) (preds other : List Scoped) (triples same : List Shown) (u : Unwound) → AreParts g cs preds triples u → same ≡ triples → (s : Sketch) →
    Outlines g s (draft_of (unwinding_of other same u)) → AreUsed s
used_said g cs preds other triples same u p e s o = λ t m.
    let l : Member (listed_in (map plain triples)) t.listed =
    subst (λ (k : List Listed). Member k t.listed) (numbers_outlined g other s.triples (map plain same) o.triples ∙ ap (λ (k : List Shown). listed_in (map plain k)) e)
    (member_map (λ (x : NamedTriple). x.listed) s.triples t m) in
    let x = member_from_map (λ (y : PlainShown). y.listed) (map plain triples) t.listed l in
    let n : Member p.needed t.listed = subst (λ (k : Listed). Member p.needed k) x.2 (p.once.within x.0 x.1) in
    subst (λ (xs : List OutlineNode). IsUsed s.steps xs t.listed) (sym o.nodes)
    (subst (λ (ts : List NamedStep). IsUsed ts (nodes_of u.nodes.items) t.listed) (sym o.steps) (p.need.used t.listed n))
