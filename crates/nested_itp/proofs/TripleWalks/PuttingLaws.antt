-- What is put down for a system, section by section: the goal where it begins, or the row of a claim that is false.
use Rattle.std.proofs.Common.{◌≡◌, ◌∙◌, ℕ, zero, suc, ◌+◌, ◌<◌, ◌≤◌, pos, Bool, true, false, List, [], ◌∷◌, ◌++◌, length, map, reverse, take, drop, get_or, refl, sym, ap, subst, arith, append_assoc, length-append, Option, None, Some, if◌then◌else◌}
use Rattle.std.specs.Prelude.{not, ◌&&◌, nat_eq, slice_get}
use Rattle.std.specs.List.{AllByRecursion}
use Rattle.std.proofs.lemmas.List.{append-nil, length-map, map-append, map_more, drop_more, drop_all, take_all}
use Rattle.farkas_check.specs.Nodes.{PlainNode, leaf}
use Rattle.farkas_check.specs.Trees.{Tree, leaf_tree}
use Rattle.nwa_base.specs.declared.letters.Letter.{Letter}
use Rattle.letter_acts.specs.Invariant.{Graph, alphabet_of}
use Rattle.letter_acts.specs.FrameRows.Rows.{columns_from}
use Rattle.nested_itp.specs.NestedPredicates.Stamps.{stamps_of}
use Rattle.nested_itp.specs.NestedPredicates.Positions.{Position, positions_of}
use Rattle.nested_itp.specs.NestedPredicates.Sums.{Branch, root_of}
use Rattle.nested_itp.specs.NestedRefutations.Refutations.{Claim, TreeSpot, truth_in, formula_at, Exposed, exposed, Role, spare, branch_row, atom_at, View, Gathered, stops_at, atom_roles, is_used, of_claim}
use Rattle.nested_itp.specs.NestedRefutations.Numbers.{Step, spares, branch_rows, groups_from, begins}
use Rattle.nested_itp.specs.NestedRefutations.Walked.{gaps_of, is_truth, false_row, TakesOr, IsWalked, AreWalkedFrom}
use Rattle.nested_itp.specs.NestedRefutations.Waiting.{GroupsWait, StepWaits}
use Rattle.nested_itp.proofs.NestedRefutations.FalseLaws.{none_false}
use Rattle.nested_itp.specs.TripleSteps.Sections.{claim_roles, section_roles, roles_in, gaps_in, claims_in}
use Rattle.nested_itp.specs.TripleSteps.Steps.{column_place, IsStep}
use Rattle.nested_itp.specs.declared.triple_steps.sections.Section.{Section}
use Rattle.nested_itp.specs.declared.triple_steps.sections.Section.TheVariants as sections
use Rattle.nested_itp.specs.declared.triple_steps.making.Step as steps
use Rattle.nested_itp.specs.TripleWalks.Spots.{IsTree}
use Rattle.nested_itp.specs.TripleWalks.Claims.{IsClaim, AreClaims, left_of, is_refuted}
use Rattle.nested_itp.specs.TripleWalks.Telling.{Tells, AllTell, IsKnown, IsExposed}
use Rattle.nested_itp.specs.TripleWalks.Stops.{IsPlace}
use Rattle.nested_itp.specs.TripleWalks.Goals.{PlainGoal, with_roles, with_exposed}
use Rattle.nested_itp.specs.TripleWalks.Ties.Walking.{IsLed, Known, IsThere, IsGroup, IsAtHand}
use Rattle.nested_itp.specs.TripleWalks.Putting.{IsPutFor, root_spot, IsLaid, is_false_of, is_false_in, claim_groups, section_groups, with_section}
use Rattle.nested_itp.proofs.TripleWalks.TellingLaws.{root_known, told_at, tells_here}
use Rattle.nested_itp.proofs.TripleWalks.WalkLaws.{none_some, some_same, all_joined, number_of, of_claim_numbers, groups_known_at, used_is}
use Rattle.nested_itp.specs.declared.triple_walks.trees.Tree as code_trees
use Rattle.nested_itp.specs.declared.triple_walks.claims.Claim as claims
use Rattle.nested_itp.specs.declared.triple_walks.exposing.Exposed as found
use Rattle.nested_itp.specs.declared.triple_walks.walks.Guide as code

-- ---- rows that are numbered one after another

columns_next : (n k : ℕ) → columns_from n (suc k) ≡ columns_from n k ++ (n + k) ∷ []
columns_next n zero = ap (λ (m : ℕ). m ∷ []) (let e : n ≡ n + 0 = omega arith in e)
columns_next n (suc k) = ap (λ (l : List ℕ). n ∷ l) (columns_next (suc n) k ∙ ap (λ (m : ℕ). columns_from (suc n) k ++ m ∷ []) (let e : suc n + k ≡ n + suc k = omega arith in e))

columns_counted : (n k : ℕ) → length (columns_from n k) ≡ k
columns_counted n zero = refl
columns_counted n (suc k) = ap suc (columns_counted (suc n) k)

mapped_next : (f : ℕ → Role) (n k : ℕ) → map f (columns_from n (k + 1)) ≡ map f (columns_from n k) ++ f (n + k) ∷ []
mapped_next f n k =
    ap (λ (m : ℕ). map f (columns_from n m)) (let e : k + 1 ≡ suc k = omega arith in e) ∙ ap (map f) (columns_next n k) ∙ map-append f (columns_from n k) ((n + k) ∷ [])

pub roles_none : (g : PlainGoal) → g ≡ with_roles [] g
roles_none g = ap (λ (l : List Role). record g { roles = l }) (sym (append-nil g.roles))

mapped_more : (f : ℕ → Role) (n k : ℕ) (role : Role) (old now new : PlainGoal) → role ≡ f (n + k) → now ≡ with_roles (map f (columns_from n k)) old → new ≡ with_roles (role ∷ []) now →
    new ≡ with_roles (map f (columns_from n (k + 1))) old
mapped_more f n k role old now new er e1 e2 =
    e2 ∙ ap (with_roles (role ∷ [])) e1 ∙ ap (λ (l : List Role). record old { roles = l })
    (append_assoc old.roles (map f (columns_from n k)) (role ∷ []) ∙
    ap (λ (l : List Role). old.roles ++ l) (ap (λ (r : Role). map f (columns_from n k) ++ r ∷ []) er ∙ sym (mapped_next f n k)))

pub spares_more : (k : ℕ) (old now new : PlainGoal) → now ≡ with_roles (spares k) old → new ≡ with_roles (spare ∷ []) now → new ≡ with_roles (spares (k + 1)) old
spares_more k old now new e1 e2 = mapped_more (λ r. spare) 0 k spare old now new refl e1 e2

pub rows_more : (first k row : ℕ) (old now new : PlainGoal) → row ≡ first + k → now ≡ with_roles (branch_rows first k) old → new ≡ with_roles (branch_row row ∷ []) now →
    new ≡ with_roles (branch_rows first (k + 1)) old
rows_more first k row old now new e e1 e2 = mapped_more branch_row first k (branch_row row) old now new (ap branch_row e) e1 e2

pub spares_all : (k count : ℕ) (old now : PlainGoal) → k ≤ count → count ≤ k → now ≡ with_roles (spares k) old → now ≡ with_roles (spares count) old
spares_all k count old now h l e = e ∙ ap (λ (n : ℕ). with_roles (spares n) old) (let q : k ≡ count = omega (arith, h, l) in q)

pub rows_all : (first k count : ℕ) (old now : PlainGoal) → k ≤ count → count ≤ k → now ≡ with_roles (branch_rows first k) old → now ≡ with_roles (branch_rows first count) old
rows_all first k count old now h l e = e ∙ ap (λ (n : ℕ). with_roles (branch_rows first n) old) (let q : k ≡ count = omega (arith, h, l) in q)

-- ---- the claims

-- the claim of a position, that holds or that does not
abbrev pub IsMade : code_trees.Tree → ℕ × Bool → claims.Claim → Type 0
IsMade x p y =
    (columns : List ℕ) (qs : List Position) (b : Branch) (t : Tree) (nodes : List PlainNode) (c : Claim) → IsTree columns qs b t nodes x → slice_get qs p.0 ≡ Some c.position → p.1 ≡ c.is_denied →
    IsClaim columns qs b t c y

abbrev pub AreMade : code_trees.Tree → List (ℕ × Bool) → List claims.Claim → Type 0
AreMade x [] [] = Unit {0}
AreMade x [] (y ∷ ys) = ⊥
AreMade x (p ∷ ps) [] = ⊥
AreMade x (p ∷ ps) (y ∷ ys) = IsMade x p y × AreMade x ps ys

abbrev pub source_at : ℕ → ℕ × Bool
source_at p = (p, false)

made_more : (x : code_trees.Tree) (ps : List (ℕ × Bool)) (ys : List claims.Claim) (p : ℕ × Bool) (y : claims.Claim) → AreMade x ps ys → IsMade x p y → AreMade x (ps ++ p ∷ []) (ys ++ y ∷ [])
made_more x [] [] p y h m = (m, tt)
made_more x [] (z ∷ ys) p y h m = absurd h
made_more x (q ∷ ps) [] p y h m = absurd h
made_more x (q ∷ ps) (z ∷ ys) p y h m = (h.0, made_more x ps ys p y h.1 m)

pub source_made : (x : code_trees.Tree) (sources : List ℕ) (i p : ℕ) (ys more : List claims.Claim) (y : claims.Claim) → i < length sources → p ≡ get_or sources i 0 →
    AreMade x (map source_at (take i sources)) ys → IsMade x (p, false) y → more ≡ ys ++ y ∷ [] → AreMade x (map source_at (take (i + 1) sources)) more
source_made x sources i p ys more y l e h m em =
    subst (AreMade x (map source_at (take (i + 1) sources))) (sym em)
    (subst (λ (ps : List (ℕ × Bool)). AreMade x ps (ys ++ y ∷ [])) (ap (λ (n : ℕ). map source_at (take i sources) ++ source_at n ∷ []) e ∙ sym (map_more source_at sources i 0 l))
    (made_more x (map source_at (take i sources)) ys (source_at p) y h m))

claims_are : (columns : List ℕ) (qs : List Position) (b : Branch) (t : Tree) (nodes : List PlainNode) (x : code_trees.Tree) → IsTree columns qs b t nodes x → (cs : List Claim) (ps : List (ℕ × Bool)) (ys : List claims.Claim) →
    map (λ c. Some c.position) cs ≡ map (λ p. slice_get qs p.0) ps → map (λ c. c.is_denied) cs ≡ map (λ p. p.1) ps → AreMade x ps ys → AreClaims columns qs b t cs ys
claims_are columns qs b t nodes x h [] [] [] e f m = tt
claims_are columns qs b t nodes x h [] [] (y ∷ ys) e f m = absurd m
claims_are columns qs b t nodes x h [] (p ∷ ps) ys e f m = absurd (cc)
claims_are columns qs b t nodes x h (c ∷ cs) [] ys e f m = absurd (cc)
claims_are columns qs b t nodes x h (c ∷ cs) (p ∷ ps) [] e f m = absurd m
claims_are columns qs b t nodes x h (c ∷ cs) (p ∷ ps) (y ∷ ys) e f m = (
  m.0 columns qs b t nodes c h (let k : slice_get qs p.0 ≡ Some c.position = cc in k) (let k : p.1 ≡ c.is_denied = cc in k),
  claims_are columns qs b t nodes x h cs ps ys (let k : map (λ c. Some c.position) cs ≡ map (λ p. slice_get qs p.0) ps = cc in k)
      (let k : map (λ c. c.is_denied) cs ≡ map (λ p. p.1) ps = cc in k) m.1,
)

sources_placed : (qs : List Position) (sources : List ℕ) (target : ℕ) → map (slice_get qs) (sources ++ target ∷ []) ≡ map (λ p. slice_get qs p.0) (map source_at sources ++ (target, true) ∷ [])
sources_placed qs [] target = refl
sources_placed qs (p ∷ sources) target = ap (λ (l : List (Option Position)). slice_get qs p ∷ l) (sources_placed qs sources target)

sources_hold : (sources : List ℕ) (target : ℕ) → map (λ p. false) sources ++ true ∷ [] ≡ map (λ p. p.1) (map source_at sources ++ (target, true) ∷ [])
sources_hold [] target = refl
sources_hold (p ∷ sources) target = ap (λ (l : List Bool). false ∷ l) (sources_hold sources target)

pub claims_made : (x : code_trees.Tree) (f : steps.Step) (i : ℕ) (ys all : List claims.Claim) (y : claims.Claim) → length f.sources.items ≤ i → AreMade x (map source_at (take i f.sources.items)) ys →
    IsMade x (f.target, true) y → all ≡ ys ++ y ∷ [] →
    (g : Graph) (w : List Letter) (t : Tree) (s : Step) (nodes : List PlainNode) → IsTree (stamps_of g w).columns (positions_of g w) (root_of g w) t nodes x → IsStep g w t s f →
    AreClaims (stamps_of g w).columns (positions_of g w) (root_of g w) t s.view.claims all
claims_made x f i ys all y l h m e g w t s nodes tree step =
    claims_are (stamps_of g w).columns (positions_of g w) (root_of g w) t nodes x tree s.view.claims (map source_at f.sources.items ++ (f.target, true) ∷ []) all
    (step.positions ∙ sources_placed (positions_of g w) f.sources.items f.target) (step.denied ∙ sources_hold f.sources.items f.target)
    (subst (AreMade x (map source_at f.sources.items ++ (f.target, true) ∷ [])) (sym e)
    (made_more x (map source_at f.sources.items) ys (f.target, true) y (subst (λ (ps : List ℕ). AreMade x (map source_at ps) ys) (take_whole f.sources.items i l) h) m))
  where
    take_whole : (ps : List ℕ) (n : ℕ) → length ps ≤ n → take n ps ≡ ps
    take_whole ps n l = take_all n ps l

-- ---- a claim that is false

told_none : (columns : List ℕ) (x : code_trees.Tree) (s : TreeSpot) (cs : List Claim) (ys : List claims.Claim) (i : ℕ) → AllTell columns x s cs ys → slice_get cs i ≡ None → slice_get ys i ≡ None
told_none columns x s [] [] i h e = refl
told_none columns x s [] (y ∷ ys) i h e = absurd h
told_none columns x s (c ∷ cs) [] i h e = refl
told_none columns x s (c ∷ cs) (y ∷ ys) zero h e = absurd (cc)
told_none columns x s (c ∷ cs) (y ∷ ys) (suc i) h e = told_none columns x s cs ys i h.1 e

told_here : (v : View) (x : code.Guide) (s : TreeSpot) (i : ℕ) (c : Claim) (y : claims.Claim) → Known v x s → slice_get x.claims.now i ≡ Some y → slice_get v.claims i ≡ Some c → Tells v.columns x.tree.now s c y
told_here v x s i c y known ey ec =
    let told = told_at v.columns x.tree.now s v.claims x.claims.now i c known.claims ec in
    subst (Tells v.columns x.tree.now s c) (some_same (slice_get x.claims.now i) told.0 y told.1 ey) told.2

refuted_is : (d : Bool) (o : Option Bool) → is_refuted d o ≡ is_truth o d
refuted_is d None = refl
refuted_is d (Some v) = refl

pub false_is : (g : Graph) (w : List Letter) (t : Tree) (v : View) (x : code.Guide) (i : ℕ) (y : claims.Claim) (z : Bool) → Known v x (root_spot g w t) → slice_get x.claims.now i ≡ Some y →
    z ≡ is_refuted y.denied (left_of y 0) → z ≡ is_false_of g w t v (slice_get v.claims i)
false_is g w t v x i y z known e ez = by_claim (slice_get v.claims i) refl
  where
    by_claim : (o : Option Claim) → slice_get v.claims i ≡ o → z ≡ is_false_of g w t v o
    by_claim None n = absurd (none_some (slice_get x.claims.now i) y (told_none v.columns x.tree.now (root_spot g w t) v.claims x.claims.now i known.claims n) e)
    by_claim (Some c) n =
        let tells : Tells v.columns x.tree.now (root_spot g w t) c y = told_here v x (root_spot g w t) i c y known e n in
        let node = tells_here v.columns x.tree.now (root_spot g w t) c y tells in
        ez ∙ ap (λ (o : Option Bool). is_refuted y.denied o) node.left ∙ ap (λ (d : Bool). is_refuted d (truth_in (formula_at v.columns c (root_of g w) t))) tells.is_denied ∙
        refuted_is c.is_denied (truth_in (formula_at v.columns c (root_of g w) t))

claim_none : (v : View) (x : code.Guide) (s : TreeSpot) (i : ℕ) → Known v x s → slice_get x.claims.now i ≡ None → slice_get v.claims i ≡ None
claim_none v x s i known e = by_claim (slice_get v.claims i) refl
  where
    by_claim : (o : Option Claim) → slice_get v.claims i ≡ o → o ≡ None
    by_claim None n = refl
    by_claim (Some c) n =
        let told = told_at v.columns x.tree.now s v.claims x.claims.now i c known.claims n in
        absurd (none_some (slice_get x.claims.now i) told.0 e told.1)

pub false_none : (g : Graph) (w : List Letter) (t : Tree) (v : View) (x : code.Guide) (i : ℕ) → Known v x (root_spot g w t) → slice_get x.claims.now i ≡ None → false ≡ is_false_of g w t v (slice_get v.claims i)
false_none g w t v x i known e = ap (is_false_of g w t v) (sym (claim_none v x (root_spot g w t) i known e))

-- ---- what a section adds

-- with what a claim gives, if there is one
abbrev with_claim_of : Graph → List Letter → Tree → View → ℕ → Option Claim → PlainGoal → PlainGoal
with_claim_of g w t v i o h = record h { roles = h.roles ++ claim_roles g w t v i o; groups = h.groups ++ map number_of (claim_groups g w t v i o) }

none_added : (h : PlainGoal) → h ≡ record h { roles = h.roles ++ []; groups = h.groups ++ [] }
none_added h = ap (λ (l : List Role). record h { roles = l }) (sym (append-nil h.roles)) ∙ ap (λ (l : List (ℕ × ℕ)). record h { roles = h.roles ++ []; groups = l }) (sym (append-nil h.groups))

pub claim_absent : (g : Graph) (w : List Letter) (t : Tree) (v : View) (x : code.Guide) (i : ℕ) (h : PlainGoal) → Known v x (root_spot g w t) → slice_get x.claims.now i ≡ None →
    h ≡ with_section g w t v (sections.Claim i) h
claim_absent g w t v x i h known e = none_added h ∙ ap (λ (o : Option Claim). with_claim_of g w t v i o h) (sym (claim_none v x (root_spot g w t) i known e))

pub claim_given : (g : Graph) (w : List Letter) (t : Tree) (v : View) (x : code.Guide) (i : ℕ) (y : claims.Claim) (used : Bool) (e : found.Exposed) (a b : PlainGoal) → IsLed v x → Known v x (root_spot g w t) →
    slice_get x.claims.now i ≡ Some y →
    ((columns : List ℕ) (k : Claim) (s : TreeSpot) → 0 ≡ s.node → Tells columns x.tree.now s k y → IsExposed (exposed columns k s.node s.branch s.tree) e) → used ≡ not (x.returns && nat_eq i 0) →
    b ≡ with_exposed i used e.leaves.items e.groups.items a → b ≡ with_section g w t v (sections.Claim i) a
claim_given g w t v x i y used e a b led known ey f eu eb = by_claim (slice_get v.claims i) refl
  where
    by_claim : (o : Option Claim) → slice_get v.claims i ≡ o → b ≡ with_claim_of g w t v i o a
    by_claim None n = absurd (none_some (slice_get x.claims.now i) y (told_none v.columns x.tree.now (root_spot g w t) v.claims x.claims.now i known.claims n) ey)
    by_claim (Some c) n =
        let more : Exposed = exposed v.columns c 0 (root_of g w) t in
        let given : IsExposed more e = f v.columns c (root_spot g w t) refl (told_here v x (root_spot g w t) i c y known ey n) in
        let is_here : used ≡ is_used v i = used_is v x i used led eu in
        let roles : atom_roles used i e.leaves.items ≡ atom_roles (is_used v i) i more.leaves =
        ap (λ (z : Bool). atom_roles z i e.leaves.items) is_here ∙ ap (atom_roles (is_used v i) i) given.leaves in
        let groups : map (λ m. (i, m)) e.groups.items ≡ map number_of (of_claim i more.groups) = ap (map (λ m. (i, m))) given.groups ∙ of_claim_numbers i more.groups in
        eb ∙ ap (λ (l : List Role). record a { roles = a.roles ++ l; groups = a.groups ++ map (λ m. (i, m)) e.groups.items }) roles ∙
        ap (λ (l : List (ℕ × ℕ)). record a { roles = a.roles ++ atom_roles (is_used v i) i more.leaves; groups = a.groups ++ l }) groups

-- ---- sections one after another

-- the groups of the claims
abbrev pub groups_in : Graph → List Letter → Tree → View → List Section → List (ℕ × TreeSpot)
groups_in g w t v [] = []
groups_in g w t v (s ∷ ss) = section_groups g w t v s ++ groups_in g w t v ss

-- the row of the first claim that is false, where so many stand before
abbrev pub false_at : Graph → List Letter → Tree → View → ℕ → List Section → Option ℕ
false_at g w t v k [] = None
false_at g w t v k (s ∷ ss) = if is_false_in g w t v s then Some k else false_at g w t v (k + length (section_roles g w t v s)) ss

-- the rows and groups of the sections up to the rest are there, of which no claim is false
pub record IsPutSoFar (g : Graph) (w : List Letter) (t : Tree) (v : View) (all rest : List Section) (h : PlainGoal) : Type 0 where
  pub roles : h.roles ++ roles_in g w t v rest ≡ roles_in g w t v all
  pub groups : h.groups ++ map number_of (groups_in g w t v rest) ≡ map number_of (groups_in g w t v all)
  pub first : h.first ≡ 0
  pub taken : h.taken ≡ []
  pub row : false_at g w t v 0 all ≡ false_at g w t v (length h.roles) rest

pub so_far_first : (g : Graph) (w : List Letter) (t : Tree) (v : View) (all : List Section) (h : PlainGoal) → h ≡ record { roles = []; groups = []; first = 0; taken = [] } →
    IsPutSoFar g w t v all all h
so_far_first g w t v all h e = subst (IsPutSoFar g w t v all all) (sym e) (record { roles = refl; groups = refl; first = refl; taken = refl; row = refl })

-- one more section
section_put : (g : Graph) (w : List Letter) (t : Tree) (v : View) (all rest : List Section) (s : Section) (h : PlainGoal) → is_false_in g w t v s ≡ false → IsPutSoFar g w t v all (s ∷ rest) h →
    IsPutSoFar g w t v all rest (with_section g w t v s h)
section_put g w t v all rest s h e put =
    let mine : List Role = section_roles g w t v s in
    let waits : List (ℕ × TreeSpot) = section_groups g w t v s in
    record {
      roles = append_assoc h.roles mine (roles_in g w t v rest) ∙ put.roles;
      groups = append_assoc h.groups (map number_of waits) (map number_of (groups_in g w t v rest)) ∙
          ap (λ (l : List (ℕ × ℕ)). h.groups ++ l) (sym (map-append number_of waits (groups_in g w t v rest))) ∙ put.groups;
      first = put.first;
      taken = put.taken;
      row = put.row ∙ ap (λ (z : Bool). if z then Some (length h.roles) else false_at g w t v (length h.roles + length mine) rest) e ∙
          ap (λ (n : ℕ). false_at g w t v n rest) (sym (length-append h.roles mine));
    }

pub so_far_more : (g : Graph) (w : List Letter) (t : Tree) (v : View) (all : List Section) (i : ℕ) (d : Section) (z : Bool) (a b : PlainGoal) → i < length all → z ≡ is_false_in g w t v (get_or all i d) → z ≡ false →
    IsPutSoFar g w t v all (drop i all) a → b ≡ with_section g w t v (get_or all i d) a → IsPutSoFar g w t v all (drop (i + 1) all) b
so_far_more g w t v all i d z a b l e n put eb =
    subst (IsPutSoFar g w t v all (drop (i + 1) all)) (sym eb)
    (section_put g w t v all (drop (i + 1) all) (get_or all i d) a (sym e ∙ n) (subst (λ (r : List Section). IsPutSoFar g w t v all r a) (drop_more all i d l) put))

-- a claim that is false
pub false_found : (g : Graph) (w : List Letter) (t : Tree) (v : View) (all : List Section) (i : ℕ) (d : Section) (z : Bool) (a : PlainGoal) → i < length all → z ≡ is_false_in g w t v (get_or all i d) → z ≡ true →
    IsPutSoFar g w t v all (drop i all) a → false_at g w t v 0 all ≡ Some (length a.roles)
false_found g w t v all i d z a l e n put =
    let s : Section = get_or all i d in
    put.row ∙ ap (false_at g w t v (length a.roles)) (drop_more all i d l) ∙
    ap (λ (b : Bool). if b then Some (length a.roles) else false_at g w t v (length a.roles + length (section_roles g w t v s)) (drop (i + 1) all)) (sym e ∙ n)

-- ---- against the numbers of the definition

abbrev StandFrom : View → ℕ → List Claim → Type 0
StandFrom v j cs = (p : ℕ) (c : Claim) → slice_get cs p ≡ Some c → slice_get v.claims (j + p) ≡ Some c

stand_first : (v : View) (j : ℕ) (c : Claim) (cs : List Claim) → StandFrom v j (c ∷ cs) → (i : ℕ) → i ≡ j → slice_get v.claims i ≡ Some c
stand_first v j c cs f i e = ap (slice_get v.claims) (let q : i ≡ j + 0 = omega (arith, e) in q) ∙ f 0 c refl

stand_next : (v : View) (j : ℕ) (c : Claim) (cs : List Claim) → StandFrom v j (c ∷ cs) → StandFrom v (suc j) cs
stand_next v j c cs f = λ p d e. ap (slice_get v.claims) (let q : suc j + p ≡ j + suc p = omega arith in q) ∙ f (suc p) d e

stand_all : (v : View) → StandFrom v 0 v.claims
stand_all v = λ p c e. ap (slice_get v.claims) (let q : 0 + p ≡ p = omega arith in q) ∙ e

first_same : (i j : ℕ) (is js : List ℕ) → i ∷ is ≡ j ∷ js → i ≡ j
first_same i j is js e = cc

rest_same : (i j : ℕ) (is js : List ℕ) → i ∷ is ≡ j ∷ js → is ≡ js
rest_same i j is js e = cc

spares_counted : (n : ℕ) → length (spares n) ≡ n
spares_counted n = length-map (columns_from 0 n) (λ r. spare) ∙ columns_counted 0 n

rows_counted : (r n : ℕ) → length (branch_rows r n) ≡ n
rows_counted r n = length-map (columns_from r n) branch_row ∙ columns_counted r n

atoms_counted : (used : Bool) (i : ℕ) (leaves : List ℕ) → length (atom_roles used i leaves) ≡ length leaves
atoms_counted used i leaves = length-map leaves (λ m. if used then atom_at i m else spare)

row_is : (g : Graph) (w : List Letter) (t : Tree) (v : View) (k m j : ℕ) (ss : List Section) (cs : List Claim) → StandFrom v j cs → claims_in ss ≡ columns_from j (length cs) →
    false_row g w t v k (gaps_in m ss) cs ≡ false_at g w t v (k + m) ss
row_is g w t v k m j [] cs f e = refl
row_is g w t v k m j (sections.Claim i ∷ ss) [] f e = absurd (cc)
row_is g w t v k m j (sections.Claim i ∷ ss) (c ∷ cs) f e =
    let found : slice_get v.claims i ≡ Some c = stand_first v j c cs f i (first_same i j (claims_in ss) (columns_from (suc j) (length cs)) e) in
    let leaves : List ℕ = (exposed v.columns c 0 (root_of g w) t).leaves in
    let wrong : Bool = is_truth (truth_in (formula_at v.columns c (root_of g w) t)) c.is_denied in
    let rest : false_row g w t v (k + m + length leaves) (gaps_in 0 ss) cs ≡ false_at g w t v (k + m + length leaves + 0) ss =
    row_is g w t v (k + m + length leaves) 0 (suc j) ss cs (stand_next v j c cs f) (rest_same i j (claims_in ss) (columns_from (suc j) (length cs)) e) in
    let counted : length (atom_roles (is_used v i) i leaves) ≡ length leaves = atoms_counted (is_used v i) i leaves in
    let place : k + m + length leaves + 0 ≡ k + m + length (atom_roles (is_used v i) i leaves) = omega (arith, counted) in
    ap (λ (o : Option ℕ). if wrong then Some (k + m) else o) (rest ∙ ap (λ (n : ℕ). false_at g w t v n ss) place) ∙
    ap (λ (o : Option Claim). if is_false_of g w t v o then Some (k + m) else false_at g w t v (k + m + length (claim_roles g w t v i o)) ss) (sym found)
row_is g w t v k m j (sections.Spare count ∷ ss) cs f e =
    row_is g w t v k (m + count) j ss cs f e ∙ ap (λ (n : ℕ). false_at g w t v n ss) (let q = spares_counted count in let p : k + (m + count) ≡ k + m + length (spares count) = omega (arith, q) in p)
row_is g w t v k m j (sections.Rows first count ∷ ss) cs f e =
    row_is g w t v k (m + count) j ss cs f e ∙
    ap (λ (n : ℕ). false_at g w t v n ss) (let q = rows_counted first count in let p : k + (m + count) ≡ k + m + length (branch_rows first count) = omega (arith, q) in p)
row_is g w t v k m j (sections.Tie tie ∷ ss) cs f e =
    row_is g w t v k (m + 1) j ss cs f e ∙ ap (λ (n : ℕ). false_at g w t v n ss) (let p : k + (m + 1) ≡ k + m + 1 = omega arith in p)

groups_are : (g : Graph) (w : List Letter) (t : Tree) (v : View) (j : ℕ) (ss : List Section) (cs : List Claim) → StandFrom v j cs → claims_in ss ≡ columns_from j (length cs) →
    groups_in g w t v ss ≡ groups_from g w t v j cs
groups_are g w t v j [] [] f e = refl
groups_are g w t v j [] (c ∷ cs) f e = absurd (cc)
groups_are g w t v j (sections.Claim i ∷ ss) [] f e = absurd (cc)
groups_are g w t v j (sections.Claim i ∷ ss) (c ∷ cs) f e =
    let same : i ≡ j = first_same i j (claims_in ss) (columns_from (suc j) (length cs)) e in
    let found : slice_get v.claims i ≡ Some c = stand_first v j c cs f i same in
    let waits : List TreeSpot = (exposed v.columns c 0 (root_of g w) t).groups in
    ap (λ (o : Option Claim). claim_groups g w t v i o ++ groups_in g w t v ss) found ∙ ap (λ (n : ℕ). of_claim n waits ++ groups_in g w t v ss) same ∙
    ap (λ (l : List (ℕ × TreeSpot)). of_claim j waits ++ l)
    (groups_are g w t v (suc j) ss cs (stand_next v j c cs f) (rest_same i j (claims_in ss) (columns_from (suc j) (length cs)) e))
groups_are g w t v j (sections.Spare count ∷ ss) cs f e = groups_are g w t v j ss cs f e
groups_are g w t v j (sections.Rows first count ∷ ss) cs f e = groups_are g w t v j ss cs f e
groups_are g w t v j (sections.Tie tie ∷ ss) cs f e = groups_are g w t v j ss cs f e

gaps_counted : (m : ℕ) (ss : List Section) → length (gaps_in m ss) ≡ length (claims_in ss)
gaps_counted m [] = refl
gaps_counted m (sections.Claim i ∷ ss) = ap suc (gaps_counted 0 ss)
gaps_counted m (sections.Spare count ∷ ss) = gaps_counted (m + count) ss
gaps_counted m (sections.Rows first count ∷ ss) = gaps_counted (m + count) ss
gaps_counted m (sections.Tie tie ∷ ss) = gaps_counted (m + 1) ss

groups_known : (g : Graph) (w : List Letter) (t : Tree) (v : View) (x : code.Guide) → Known v x (root_spot g w t) → (j : ℕ) (cs : List Claim) → StandFrom v j cs →
    AllByRecursion (IsGroup v x) (groups_from g w t v j cs)
groups_known g w t v x known j [] f = tt
groups_known g w t v x known j (c ∷ cs) f =
    all_joined (IsGroup v x) (of_claim j (exposed v.columns c 0 (root_of g w) t).groups) (groups_from g w t v (suc j) cs)
    (groups_known_at v x j c (root_spot g w t) (stand_first v j c cs f j refl) known) (groups_known g w t v x known (suc j) cs (stand_next v j c cs f))

-- the row of the definition
laid_row : (g : Graph) (w : List Letter) (t : Tree) (s : Step) (ss : List Section) → IsLaid g w t s ss →
    false_row g w t s.view 0 (gaps_of (alphabet_of g) s.triple) s.view.claims ≡ false_at g w t s.view 0 ss
laid_row g w t s ss laid =
    ap (λ (l : List ℕ). false_row g w t s.view 0 l s.view.claims) (sym laid.gaps) ∙ row_is g w t s.view 0 0 0 ss s.view.claims (stand_all s.view) laid.order

-- ---- what is put down

-- the row of a claim that is false
pub put_false : (g : Graph) (w : List Letter) (t : Tree) (s : Step) (ss : List Section) (k : ℕ) (nodes : List PlainNode) → IsLaid g w t s ss → false_at g w t s.view 0 ss ≡ Some k →
    nodes ≡ leaf ((k, pos 1) ∷ []) ∷ [] → IsPutFor g w t s nodes
put_false g w t s ss k nodes laid row e =
    let found : Tree = leaf_tree ((k, pos 1) ∷ []) in
    record {
      tree = found;
      listed = sym e;
      put = subst (λ (o : Option ℕ). TakesOr o found (IsWalked s.view found (begins g w t s) (stops_at s.view [] (root_spot g w t)))) (sym (laid_row g w t s ss laid ∙ row)) refl;
    }

-- what the walk puts down, where no claim is false
pub put_walked : (g : Graph) (w : List Letter) (t : Tree) (s : Step) (x : code.Guide) (ss : List Section) (i : ℕ) (h : PlainGoal) (nodes : List PlainNode) → IsLed s.view x →
    IsThere s.view x (root_spot g w t) (record { node = 0; depth = 0 }) → IsLaid g w t s ss → StepWaits g w t s → length ss ≤ i → IsPutSoFar g w t s.view ss (drop i ss) h →
    ((v : View) (b : Gathered) (z : TreeSpot) → IsLed v x → IsAtHand v x b h → IsThere v x z (record { node = 0; depth = 0 }) → GroupsWait v b (stops_at v b.taken z) →
    AreWalkedFrom v b (stops_at v b.taken z) nodes) → IsPutFor g w t s nodes
put_walked g w t s x ss i h nodes led there laid waits l so_far run =
    let v : View = s.view in
    let first : Gathered = begins g w t s in
    let put : IsPutSoFar g w t v ss [] h = subst (λ (r : List Section). IsPutSoFar g w t v ss r h) (drop_all i ss l) so_far in
    let none : false_row g w t v 0 (gaps_of (alphabet_of g) s.triple) v.claims ≡ None = laid_row g w t s ss laid ∙ put.row in
    let counted : length (gaps_of (alphabet_of g) s.triple) ≡ length v.claims =
    ap length (sym laid.gaps) ∙ gaps_counted 0 ss ∙ ap length laid.order ∙ columns_counted 0 (length v.claims) in
    let wait : GroupsWait v first (stops_at v [] (root_spot g w t)) = waits (none_false g w t v 0 (gaps_of (alphabet_of g) s.triple) v.claims counted none) in
    let groups : h.groups ≡ map number_of (groups_from g w t v 0 v.claims) =
    sym (append-nil h.groups) ∙ put.groups ∙ ap (map number_of) (groups_are g w t v 0 ss v.claims (stand_all v) laid.order) in
    let at : IsAtHand v x first h = record {
      goal = record {
        roles = sym (append-nil h.roles) ∙ put.roles ∙ sym laid.roles;
        groups = ap (λ (n : ℕ). drop n h.groups) put.first ∙ groups;
        opened = subst (λ (n : ℕ). n ≤ length h.groups) (sym put.first) (omega arith);
        taken = ap reverse put.taken;
      };
      groups = groups_known g w t v x there.known 0 v.claims (stand_all v);
    } in
    let walked : AreWalkedFrom v first (stops_at v [] (root_spot g w t)) nodes = run v first (root_spot g w t) led at there wait in
    record {
      tree = walked.tree;
      listed = walked.listed;
      put = subst (λ (o : Option ℕ). TakesOr o walked.tree (IsWalked v walked.tree first (stops_at v [] (root_spot g w t)))) (sym none) walked.walked;
    }

-- ---- of a step

pub step_led : (g : Graph) (w : List Letter) (t : Tree) (s : Step) (f : steps.Step) (x : code.Guide) → IsStep g w t s f → x.returns ≡ f.returns → x.columns.now ≡ f.columns → IsLed s.view x
step_led g w t s f x step er ec = record { returns = step.returns ∙ sym er; column = λ c. step.column c ∙ ap (λ k. column_place k c) (sym ec) }

pub step_there : (g : Graph) (w : List Letter) (t : Tree) (s : Step) (f : steps.Step) (nodes : List PlainNode) (x : code_trees.Tree) (ys : List claims.Claim) (rows : ℕ) → IsStep g w t s f →
    IsTree (stamps_of g w).columns (positions_of g w) (root_of g w) t nodes x → AreClaims (stamps_of g w).columns (positions_of g w) (root_of g w) t s.view.claims ys → rows ≡ length (root_of g w).rows →
    IsPlace s.view.columns nodes x s.view.claims ys rows (root_spot g w t) (record { node = 0; depth = 0 })
step_there g w t s f nodes x ys rows step tree are e = record {
  node = refl;
  depth = sym e ∙ (let q : rows ≡ rows + 0 = omega arith in q);
  known = subst (λ (l : List ℕ). IsKnown l nodes x s.view.claims ys (root_spot g w t)) (sym step.stamps)
      (root_known (stamps_of g w).columns (positions_of g w) (root_of g w) t nodes x s.view.claims ys tree are);
}

pub step_laid : (g : Graph) (w : List Letter) (t : Tree) (s : Step) (f : steps.Step) → IsStep g w t s f → IsLaid g w t s f.sections.items
step_laid g w t s f step = record { roles = step.roles; order = step.order; gaps = step.gaps }
