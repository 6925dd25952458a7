-- The loop over the letters that sums a leaf.
use Rattle.std.proofs.Common.{◌≡◌, ◌∙◌, ℕ, zero, suc, ◌+◌, ◌*◌, ◌<◌, ◌≤◌, ℤ, pos, ◌-ℤ◌, Bool, true, false, cond, List, [], ◌∷◌, ◌++◌, length, map, drop, get_or, reverse, refl, sym, ap, subst, arith}
use Rattle.std.specs.Prelude.{slice_index, slice_get, nat_lt, Some}
use Rattle.std.specs.Global.{Vec}
use Rattle.std.specs.List.{AllByRecursion}
use Rattle.std.proofs.lemmas.Bool.{le-ltb}
use Rattle.std.proofs.lemmas.List.{map-append, length-map}
use Rattle.lin_rows.specs.Rows.{LinearRow}
use Rattle.lin_rows.specs.Combinations.{IsPart, combined}
use Rattle.math_facts.specs.Fits.{Fits}
use Rattle.math_facts.specs.Terms.{coefficient}
use Rattle.nwa_base.specs.declared.letters.Letter.{Letter}
use Rattle.letter_acts.specs.Acts.{Alphabet, act_of, frame_of}
use Rattle.letter_acts.specs.Invariant.{Graph, alphabet_of}
use Rattle.path_rows.specs.Versions.{PathStage, part_of}
use Rattle.path_rows.specs.Paths.{start_frame, first_stage, path_along, path_of}
use Rattle.triple_rows.specs.declared.predicates.PredNode.{PredNode}
use Rattle.nested_itp.specs.declared.nested_predicates.wide.Wide.{Wide}
use Rattle.nested_itp.specs.declared.nested_predicates.running.Running.{Running}
use Rattle.nested_itp.specs.declared.nested_predicates.bases.Base.{Base}
use Rattle.nested_itp.specs.NestedPredicates.Wides.{value_of}
use Rattle.nested_itp.specs.NestedPredicates.Positions.{CallScope, position_at, positions_of, start_scope, has_return, known_columns, callee_of, scopes_after}
use Rattle.nested_itp.specs.NestedPredicates.Sums.{Branch, parts_upto, inequality, terms_from}
use Rattle.nested_itp.specs.NestedPredicates.Runnings.{value_at, AreCounted, AddsParts, differences, parts_at}
use Rattle.nested_itp.specs.NestedPredicates.Bases.{AreMade, CanRead, IsNothing, Enters, first_columns, first_bound, node_of, IsSummed, IsBase, AreBases}
use Rattle.nested_itp.specs.NestedPredicates.Fitting.{SumNumbersFit}
use Rattle.nested_itp.specs.NestedPredicates.Layouts.{HasStamps, leaf_node}
use Rattle.nested_itp.proofs.NestedPredicates.WordLaws.{IsRead, start_read, next_read, front_letter, all_read}
use Rattle.nested_itp.proofs.NestedPredicates.PassLaws.{StartsEmpty, summed_next, sum_read, numbers_read, bases_after}

-- ---- nothing has a stamp below 2

index_from : (stamps : List ℕ) (k : ℕ) → k < length stamps → AllByRecursion (λ s. 2 ≤ s) stamps → 2 ≤ slice_index stamps k
index_from [] k l h = absurd (omega (arith, l))
index_from (x ∷ xs) zero l h = h.0
index_from (x ∷ xs) (suc k) l h = index_from xs k (omega (arith, l)) h.1

none_upto : (b : Branch) (s : ℕ) (parts : List (ℕ × ℤ)) → s < 2 → HasStamps b → AllByRecursion (IsPart b.rows) parts → parts_upto b.stamps s parts ≡ []
none_upto b s [] l h each = refl
none_upto b s (t ∷ ts) l h each =
    by_test (nat_lt (slice_index b.stamps t.0) (suc s))
    (le-ltb (slice_index b.stamps t.0) (suc s)
    (let i = index_from b.stamps t.0 (let n = h.as_many in let k = each.0.exists in omega (arith, n, k)) h.from_two in omega (arith, l, i)))
    (none_upto b s ts l h each.1)
  where
    by_test : (p : Bool) → p ≡ false → parts_upto b.stamps s ts ≡ [] → cond p (t ∷ parts_upto b.stamps s ts) (parts_upto b.stamps s ts) ≡ []
    by_test true e k = absurd (cc)
    by_test false e k = k

pub starts_empty : (b : Branch) (parts : List (ℕ × ℤ)) → HasStamps b → AllByRecursion (IsPart b.rows) parts → StartsEmpty b parts
starts_empty b parts h each = record {
  columns = λ v. ap (combined (λ r. coefficient v r.terms) b.rows) (none_upto b 0 parts (omega arith) h each);
  bound = let number : LinearRow → ℤ = λ r. r.bound in ap (combined number b.rows) (none_upto b 0 parts (omega arith) h each);
}

pub summed_first : (b : Branch) (parts : List (ℕ × ℤ)) (r : Running) → HasStamps b → AllByRecursion (IsPart b.rows) parts → ((v : ℕ) → value_at r.columns.items v ≡ pos 0) →
    value_of r.bound ≡ pos 0 → AreCounted r → IsSummed b parts 1 r
summed_first b parts r h each z e c = record {
  columns = λ v l. z v ∙ sym (ap (combined (λ r. coefficient v r.terms) b.rows) (none_upto b 1 parts (omega arith) h each));
  bound = let number : LinearRow → ℤ = λ r. r.bound in e ∙ sym (ap (combined number b.rows) (none_upto b 1 parts (omega arith) h each));
  counted = c;
}

pub parts_named : (b : Branch) (parts : List (ℕ × ℤ)) → HasStamps b → AllByRecursion (IsPart b.rows) parts → AllByRecursion (λ t. t.0 < length b.stamps) parts
parts_named b [] h each = tt
parts_named b (t ∷ ts) h each = ((let n = h.as_many in let k = each.0.exists in omega (arith, n, k)), parts_named b ts h each.1)

-- ---- the versions at positions

abbrev pub items_of : List (Vec ℕ) → List (List ℕ)
items_of states = map (λ v. v.items) states

states_counted : (al : Alphabet) (n : ℕ) (p : PathStage) (w : List Letter) → length (path_along al n p w).states ≡ suc (length w)
states_counted al n p [] = refl
states_counted al n p (a ∷ w) = ap suc (states_counted al (suc n) (part_of al a p).after w)

pub states_of_word : (g : Graph) (w : List Letter) (states : List (Vec ℕ)) → items_of states ≡ (path_of g w).states → length states ≡ suc (length w)
states_of_word g w states e =
    sym (length-map states (λ v. v.items)) ∙ ap (λ (l : List (List ℕ)). length l) e ∙ states_counted (alphabet_of g) 1 (first_stage (start_frame g)) w

state_first : (al : Alphabet) (n : ℕ) (p : PathStage) (w : List Letter) → (rest : List (List ℕ)) × ((path_along al n p w).states ≡ p.here ∷ rest)
state_first al n p [] = ([], refl)
state_first al n p (a ∷ w) = ((path_along al (suc n) (part_of al a p).after w).states, refl)

item_at : (states : List (List ℕ)) (i : ℕ) (here v : List ℕ) (rest : List (List ℕ)) → slice_get states i ≡ Some v → drop i states ≡ here ∷ rest → v ≡ here
item_at [] i here v rest f e = absurd (cc)
item_at (x ∷ xs) zero here v rest f e = cc
item_at (x ∷ xs) (suc i) here v rest f e = item_at xs i here v rest f e

pub here_read : (g : Graph) (w : List Letter) (i : ℕ) (h : IsRead g w i) (v : List ℕ) → slice_get (path_of g w).states i ≡ Some v → v ≡ h.stage.here
here_read g w i h v e =
    let f = state_first (alphabet_of g) (suc i) h.stage (drop i w) in
    item_at (path_of g w).states i h.stage.here v f.0 e (h.versions ∙ f.1)

-- all versions in frames have a number
abbrev pub AllMade : List Wide → List (List ℕ) → Type 0
AllMade columns states = AllByRecursion (AreMade columns) states

pub made_wider : (columns new : List Wide) (vs : List ℕ) → length new ≡ length columns → AreMade columns vs → AreMade new vs
made_wider columns new [] e h = tt
made_wider columns new (v ∷ vs) e h = ((let k = h.0 in omega (arith, e, k)), made_wider columns new vs e h.1)

pub all_made_wider : (columns new : List Wide) (states : List (List ℕ)) → length new ≡ length columns → AllMade columns states → AllMade new states
all_made_wider columns new [] e h = tt
all_made_wider columns new (s ∷ states) e h = (made_wider columns new s e h.0, all_made_wider columns new states e h.1)

made_below : (n : ℕ) (columns : List Wide) (vs : List ℕ) → length columns ≡ n → AllByRecursion (λ v. v < n) vs → AreMade columns vs
made_below n columns [] e h = tt
made_below n columns (v ∷ vs) e h = ((let k = h.0 in omega (arith, e, k)), made_below n columns vs e h.1)

pub all_made_below : (n : ℕ) (columns : List Wide) (states : List (Vec ℕ)) → length columns ≡ n → AllByRecursion (λ s. AllByRecursion (λ v. v < n) s.items) states →
    AllMade columns (items_of states)
all_made_below n columns [] e h = tt
all_made_below n columns (s ∷ states) e h = (made_below n columns s.items e h.0, all_made_below n columns states e h.1)

pub made_at : (columns : List Wide) (states : List (List ℕ)) (i : ℕ) (v : List ℕ) → slice_get states i ≡ Some v → AllMade columns states → AreMade columns v
made_at columns [] i v e h = absurd (cc)
made_at columns (x ∷ xs) zero v e h = subst (AreMade columns) (let k : x ≡ v = cc in k) h.0
made_at columns (x ∷ xs) (suc i) v e h = made_at columns xs i v e h.1

-- ---- the loop

-- i letters are read
pub record SumsRead (g : Graph) (w : List Letter) (i : ℕ) (b : Branch) (parts : List (ℕ × ℤ)) (running : Running) (frames : List Base) (sums : List PredNode) : Type 0 where
  pub read : IsRead g w i
  pub summed : IsSummed b parts (suc (2 * i)) running
  pub made : AllMade running.columns.items (path_of g w).states
  pub bases : AreBases b parts read.scopes (reverse frames)
  pub rooms : AllByRecursion CanRead frames
  pub nodes : sums ≡ map (leaf_node b parts) read.front

-- the sum at a position is its node
position_node : (b : Branch) (parts : List (ℕ × ℤ)) (n : ℕ) (p : PathStage) (scopes : List CallScope) (running : Running) (frames : List Base) (here : List ℕ) (node : PredNode) → StartsEmpty b parts →
    IsSummed b parts (suc (2 * n)) running → AreMade running.columns.items here → here ≡ p.here → AreBases b parts scopes (reverse frames) →
    node ≡ node_of (inequality (terms_from 0 (differences running.columns.items (first_columns (reverse frames)) here)) (value_of running.bound -ℤ first_bound (reverse frames))) →
    node ≡ leaf_node b parts (position_at n p scopes)
position_node b parts n p scopes running frames here node empty h made e a k =
    k ∙
    ap (λ (l : List ℕ). node_of (inequality (terms_from 0 (differences running.columns.items (first_columns (reverse frames)) l)) (value_of running.bound -ℤ first_bound (reverse frames)))) e ∙
    sum_read b parts (position_at n p scopes) running (reverse frames) scopes refl empty h (subst (AreMade running.columns.items) e made) a

first_base : (g : Graph) (b : Branch) (parts : List (ℕ × ℤ)) (x : Base) → StartsEmpty b parts → IsNothing x → IsBase b parts (start_scope g) x
first_base g b parts x empty nil = record {
  columns = λ j. ap (λ (ws : List Wide). value_at ws j) nil.columns;
  bound = nil.bound ∙ sym empty.bound;
  room = nil.room;
}

pub sums_start : (g : Graph) (w : List Letter) (b : Branch) (parts : List (ℕ × ℤ)) (running : Running) (frames : List Base) (x : Base) (sums : List PredNode) (node : PredNode)
    (here : List ℕ) → HasStamps b → AllByRecursion (IsPart b.rows) parts → IsSummed b parts 1 running → AllMade running.columns.items (path_of g w).states →
    IsNothing x → frames ≡ x ∷ [] → slice_get (path_of g w).states 0 ≡ Some here → AreMade running.columns.items here →
    node ≡ node_of (inequality (terms_from 0 (differences running.columns.items (first_columns (reverse frames)) here)) (value_of running.bound -ℤ first_bound (reverse frames))) →
    sums ≡ node ∷ [] → SumsRead g w 0 b parts running frames sums
sums_start g w b parts running frames x sums node here stamps each h made nil f k at n s =
    let empty : StartsEmpty b parts = starts_empty b parts stamps each in
    let read : IsRead g w 0 = start_read g w in
    let base : IsBase b parts (start_scope g) x = first_base g b parts x empty nil in
    let bases : AreBases b parts read.scopes (reverse frames) = subst (λ (l : List Base). AreBases b parts read.scopes (reverse l)) (sym f) (base, tt) in
    record {
      read = read;
      summed = h;
      made = made;
      bases = bases;
      rooms = subst (AllByRecursion CanRead) (sym f) (nil.room, tt);
      nodes = s ∙ ap (λ (m : PredNode). m ∷ []) (position_node b parts 0 read.stage read.scopes running frames here node empty h at (here_read g w 0 read here k) bases n);
    }

-- where i letters are read, all but the nodes
pub record SumsAt (g : Graph) (w : List Letter) (i : ℕ) (read : IsRead g w i) (b : Branch) (parts : List (ℕ × ℤ)) (running : Running) (frames : List Base) : Type 0 where
  pub summed : IsSummed b parts (suc (2 * i)) running
  pub bases : AreBases b parts read.scopes (reverse frames)

sums_reach : (g : Graph) (w : List Letter) (i : ℕ) (a d : Letter) (b : Branch) (parts ps qs : List (ℕ × ℤ)) (first mid last : Running)
    (old new : List Base) (old_sums : List PredNode) (returns : Bool) (before entry : List ℕ) →
    HasStamps b → AllByRecursion (IsPart b.rows) parts → (f : drop i w ≡ a ∷ drop (i + 1) w) →
    slice_get (path_of g w).states i ≡ Some before → slice_get (path_of g w).states (i + 1) ≡ Some entry → AreMade mid.columns.items before → AreMade mid.columns.items entry →
    returns ≡ has_return 0 (drop (i + 1) w) → (h : SumsRead g w i b parts first old old_sums) →
    ps ≡ parts_at b.stamps (2 * (i + 1)) parts → AddsParts b.rows ps first mid → qs ≡ parts_at b.stamps (2 * (i + 1) + 1) parts → AddsParts b.rows qs mid last →
    (let al = alphabet_of g in Enters a.kind returns (known_columns (frame_of al (callee_of (act_of al a))) entry before) mid (reverse old) (reverse new)) →
    SumsAt g w (i + 1) (next_read g w i a f h.read) b parts last new
sums_reach g w i a d b parts ps qs first mid last old new old_sums returns before entry stamps each f be en mb me r h pe pa qe qa x =
    let al : Alphabet = alphabet_of g in
    let empty : StartsEmpty b parts = starts_empty b parts stamps each in
    let read : IsRead g w (i + 1) = next_read g w i a f h.read in
    let at_call : IsSummed b parts (2 * suc i) mid =
    summed_next b parts ps (suc (2 * i)) (2 * suc i) first mid (let q : 2 * suc i ≡ suc (suc (2 * i)) = omega arith in q)
    (pe ∙ ap (λ (m : ℕ). parts_at b.stamps m parts) (let q : 2 * (i + 1) ≡ 2 * suc i = omega arith in q)) h.summed pa in
    let here : IsSummed b parts (suc (2 * (i + 1))) last =
    summed_next b parts qs (2 * suc i) (suc (2 * (i + 1))) mid last (let q : suc (2 * (i + 1)) ≡ suc (2 * suc i) = omega arith in q)
    (qe ∙ ap (λ (m : ℕ). parts_at b.stamps m parts) (let q : 2 * (i + 1) + 1 ≡ suc (2 * (i + 1)) = omega arith in q)) at_call qa in
    let x0 : before ≡ h.read.stage.here = here_read g w i h.read before be in
    let x1 : entry ≡ read.stage.here = here_read g w (i + 1) read entry en in
    let bases0 : AreBases b parts _ (reverse new) =
    bases_after b parts al (suc i) a.kind (act_of al a) (drop (i + 1) w) returns entry before mid h.read.scopes (reverse old) (reverse new) empty at_call me mb r x h.bases in
    let bases : AreBases b parts read.scopes (reverse new) =
    subst (λ (v : List ℕ). AreBases b parts (scopes_after al (suc i) a.kind (act_of al a) (drop (i + 1) w) read.stage.here v h.read.scopes) (reverse new)) x0
    (subst (λ (v : List ℕ). AreBases b parts (scopes_after al (suc i) a.kind (act_of al a) (drop (i + 1) w) v before h.read.scopes) (reverse new)) x1 bases0) in
    record { summed = here; bases = bases }

pub sums_next : (g : Graph) (w : List Letter) (i : ℕ) (a d : Letter) (b : Branch) (parts ps qs : List (ℕ × ℤ)) (first mid last : Running)
    (old new : List Base) (old_sums new_sums : List PredNode) (node : PredNode) (returns : Bool) (before entry : List ℕ) →
    HasStamps b → AllByRecursion (IsPart b.rows) parts → i < length w → a ≡ get_or w i d →
    slice_get (path_of g w).states i ≡ Some before → slice_get (path_of g w).states (i + 1) ≡ Some entry → AreMade mid.columns.items before → AreMade mid.columns.items entry → AreMade last.columns.items entry →
    returns ≡ has_return 0 (drop (i + 1) w) → SumsRead g w i b parts first old old_sums →
    ps ≡ parts_at b.stamps (2 * (i + 1)) parts → AddsParts b.rows ps first mid → qs ≡ parts_at b.stamps (2 * (i + 1) + 1) parts → AddsParts b.rows qs mid last →
    (let al = alphabet_of g in Enters a.kind returns (known_columns (frame_of al (callee_of (act_of al a))) entry before) mid (reverse old) (reverse new)) → AllByRecursion CanRead new →
    node ≡ node_of (inequality (terms_from 0 (differences last.columns.items (first_columns (reverse new)) entry)) (value_of last.bound -ℤ first_bound (reverse new))) →
    new_sums ≡ old_sums ++ node ∷ [] → SumsRead g w (i + 1) b parts last new new_sums
sums_next g w i a d b parts ps qs first mid last old new old_sums new_sums node returns before entry stamps each l al_e be en mb me le r h pe pa qe qa x rooms n s =
    let empty : StartsEmpty b parts = starts_empty b parts stamps each in
    let f : drop i w ≡ a ∷ drop (i + 1) w = front_letter w i a d l al_e in
    let read : IsRead g w (i + 1) = next_read g w i a f h.read in
    let reached : SumsAt g w (i + 1) read b parts last new =
    sums_reach g w i a d b parts ps qs first mid last old new old_sums returns before entry stamps each f be en mb me r h pe pa qe qa x in
    let x1 : entry ≡ read.stage.here = here_read g w (i + 1) read entry en in
    record {
      read = read;
      summed = reached.summed;
      made = all_made_wider first.columns.items last.columns.items (path_of g w).states (qa.width ∙ pa.width) h.made;
      bases = reached.bases;
      rooms = rooms;
      nodes =
          s ∙ ap (λ (l : List PredNode). l ++ node ∷ []) h.nodes ∙
          ap (λ (m : PredNode). map (leaf_node b parts) h.read.front ++ m ∷ []) (position_node b parts (i + 1) read.stage read.scopes last new entry node empty reached.summed le x1 reached.bases n) ∙
          sym (map-append (leaf_node b parts) h.read.front (position_at (i + 1) read.stage read.scopes ∷ []));
    }

pub sums_done : (g : Graph) (w : List Letter) (i : ℕ) (b : Branch) (parts : List (ℕ × ℤ)) (running : Running) (frames : List Base) (sums : List PredNode) → length w ≤ i →
    SumsRead g w i b parts running frames sums → sums ≡ map (leaf_node b parts) (positions_of g w)
sums_done g w i b parts running frames sums l h = h.nodes ∙ ap (map (leaf_node b parts)) (all_read g w i l h.read)

-- ---- a sum that does not fit

-- a number of the sum at a position does not fit
abbrev pub IsPast : Running → List Base → List ℕ → Type 0
IsPast running frames here =
    AllByRecursion Fits (differences running.columns.items (first_columns (reverse frames)) here) → Fits (value_of running.bound -ℤ first_bound (reverse frames)) → ⊥

position_past : (b : Branch) (parts : List (ℕ × ℤ)) (n : ℕ) (p : PathStage) (scopes : List CallScope) (running : Running) (frames : List Base) (here : List ℕ) → StartsEmpty b parts →
    IsSummed b parts (suc (2 * n)) running → AreMade running.columns.items here → here ≡ p.here → AreBases b parts scopes (reverse frames) → IsPast running frames here →
    SumNumbersFit b parts (position_at n p scopes) → ⊥
position_past b parts n p scopes running frames here empty h made e a past fits =
    let numbers = numbers_read b parts (position_at n p scopes) running (reverse frames) scopes refl empty h (subst (AreMade running.columns.items) e made) a in
    past
    (subst (λ (l : List ℕ). AllByRecursion Fits (differences running.columns.items (first_columns (reverse frames)) l)) (sym e) (subst (AllByRecursion Fits) (sym numbers.0) fits.columns))
    (subst Fits (sym numbers.1) fits.bound)

front_all : {X : Type 0} (P : X → Type 0) (xs ys : List X) (x : X) → AllByRecursion P ((xs ++ x ∷ []) ++ ys) → P x
front_all P [] ys x h = h.0
front_all P (y ∷ xs) ys x h = front_all P xs ys x h.1

-- that of the first position
pub past_start : (g : Graph) (w : List Letter) (b : Branch) (parts : List (ℕ × ℤ)) (running : Running) (frames : List Base) (x : Base) (here : List ℕ) → HasStamps b →
    AllByRecursion (IsPart b.rows) parts → IsSummed b parts 1 running → IsNothing x → frames ≡ x ∷ [] → slice_get (path_of g w).states 0 ≡ Some here → AreMade running.columns.items here →
    IsPast running frames here → AllByRecursion (SumNumbersFit b parts) (positions_of g w) → ⊥
past_start g w b parts running frames x here stamps each h nil f k at past fits =
    let empty : StartsEmpty b parts = starts_empty b parts stamps each in
    let read : IsRead g w 0 = start_read g w in
    let bases : AreBases b parts read.scopes (reverse frames) =
    subst (λ (l : List Base). AreBases b parts read.scopes (reverse l)) (sym f) (first_base g b parts x empty nil, tt) in
    position_past b parts 0 read.stage read.scopes running frames here empty h at (here_read g w 0 read here k) bases past
    (front_all (SumNumbersFit b parts) [] _ (position_at 0 read.stage read.scopes) (subst (AllByRecursion (SumNumbersFit b parts)) (sym read.whole) fits))

-- that of the position after another letter
pub past_next : (g : Graph) (w : List Letter) (i : ℕ) (a d : Letter) (b : Branch) (parts ps qs : List (ℕ × ℤ)) (first mid last : Running)
    (old new : List Base) (old_sums : List PredNode) (returns : Bool) (before entry : List ℕ) →
    HasStamps b → AllByRecursion (IsPart b.rows) parts → i < length w → a ≡ get_or w i d →
    slice_get (path_of g w).states i ≡ Some before → slice_get (path_of g w).states (i + 1) ≡ Some entry → AreMade mid.columns.items before → AreMade mid.columns.items entry → AreMade last.columns.items entry →
    returns ≡ has_return 0 (drop (i + 1) w) → SumsRead g w i b parts first old old_sums →
    ps ≡ parts_at b.stamps (2 * (i + 1)) parts → AddsParts b.rows ps first mid → qs ≡ parts_at b.stamps (2 * (i + 1) + 1) parts → AddsParts b.rows qs mid last →
    (let al = alphabet_of g in Enters a.kind returns (known_columns (frame_of al (callee_of (act_of al a))) entry before) mid (reverse old) (reverse new)) →
    IsPast last new entry → AllByRecursion (SumNumbersFit b parts) (positions_of g w) → ⊥
past_next g w i a d b parts ps qs first mid last old new old_sums returns before entry stamps each l al_e be en mb me le r h pe pa qe qa x past fits =
    let empty : StartsEmpty b parts = starts_empty b parts stamps each in
    let f : drop i w ≡ a ∷ drop (i + 1) w = front_letter w i a d l al_e in
    let read : IsRead g w (i + 1) = next_read g w i a f h.read in
    let reached : SumsAt g w (i + 1) read b parts last new =
    sums_reach g w i a d b parts ps qs first mid last old new old_sums returns before entry stamps each f be en mb me r h pe pa qe qa x in
    position_past b parts (i + 1) read.stage read.scopes last new entry empty reached.summed le (here_read g w (i + 1) read entry en) reached.bases past
    (front_all (SumNumbersFit b parts) h.read.front _ (position_at (i + 1) read.stage read.scopes) (subst (AllByRecursion (SumNumbersFit b parts)) (sym read.whole) fits))

-- ---- from what the code has

-- a letter is one of the word, at its number
pub letter_is : (w v : List Letter) (i : ℕ) (a d : Letter) → w ≡ v → a ≡ get_or w i d → a ≡ get_or v i d
letter_is w v i a d e h = h ∙ ap (λ (l : List Letter). get_or l i d) e

pub within_word : (w v : List Letter) (i : ℕ) → w ≡ v → i < length w → i < length v
within_word w v i e l = subst (λ (x : List Letter). i < length x) e l

-- a position up to the next one has versions
pub position_within : (g : Graph) (w v : List Letter) (states : List (Vec ℕ)) (i n : ℕ) → w ≡ v → i < length w → n ≤ i + 1 → items_of states ≡ (path_of g v).states → n < length states
position_within g w v states i n e l m h = let k = states_of_word g v states h in let j = within_word w v i e l in omega (arith, k, j, m)

pub first_within : (g : Graph) (v : List Letter) (states : List (Vec ℕ)) → items_of states ≡ (path_of g v).states → 0 < length states
first_within g v states h = let k = states_of_word g v states h in omega (arith, k)

pub versions_are : (g : Graph) (v : List Letter) (states : List (Vec ℕ)) (n : ℕ) (here : List ℕ) → items_of states ≡ (path_of g v).states → slice_get (items_of states) n ≡ Some here →
    slice_get (path_of g v).states n ≡ Some here
versions_are g v states n here h e = subst (λ (l : List (List ℕ)). slice_get l n ≡ Some here) h e
