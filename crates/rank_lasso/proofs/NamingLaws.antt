-- What is known of a ranking that a spelled one names.
use Rattle.std.proofs.Common.{◌≡◌, ◌≢◌, ℕ, ◌^◌, ◌<◌, Bool, true, false, cond, not, nat_lt, List, [], ◌∷◌, map, length, Option, None, Some, refl, sym, ap, ◌∙◌, subst, arith}
use Rattle.std.specs.Prelude.{ℤ, is_some, bytes_eq}
use Rattle.std.specs.List.{AllByRecursion, prefix_len, list_all}
use Rattle.std.specs.Option.{option_map, option_and_then}
use Rattle.std.proofs.lemmas.Bool.{ltb-true, false≢true}
use Rattle.math_facts.specs.Fits.{Fits}
use Rattle.letter_acts.specs.Frames.{Columns}
use Rattle.letter_acts.specs.Invariant.{Graph}
use Rattle.farkas_check.specs.Nodes as nodes
use Rattle.farkas_check.specs.Nodes.{PlainNode}
use Rattle.proof_form.specs.declared.numerals.Numeral.{Numeral}
use Rattle.proof_form.specs.Refutations as form
use Rattle.proof_form.specs.Refutations.{RefutationNode, is_refutation, is_some_list, is_part}
use Rattle.proof_form.proofs.RunLaws.{both_hold}
use Rattle.proof_names.specs.Columns.{column_text, column_named}
use Rattle.proof_names.specs.Numbers.{short_in, number_in, if_below}
use Rattle.proof_names.specs.Options.{both, all_some}
use Rattle.proof_names.specs.Predicates.{term_named, terms_ascend}
use Rattle.proof_names.specs.Refutations.{named_part, cut_of, node_of, refutation_of}
use Rattle.proof_names.proofs.AllLaws.{front_of}
use Rattle.proof_names.proofs.AtomLaws.{number_fits}
use Rattle.proof_names.specs.ProofSpell.Nodes.{HasNumbers}
use Rattle.rank_lasso.specs.LassoTurns.Claims.{IsFormOver}
use Rattle.rank_lasso.specs.LassoRanks.Ranks.{PlainRanking, ranked_by, excluded_by}
use Rattle.rank_lasso.specs.RankingText.{RankingForm, rank_form, excluded_form, IsForm}
use Rattle.rank_lasso.specs.Naming.{entry_frame, if_ascending, form_named, rank_with, ranking_named, MayBeWritten, first_unnamed, bad_line}
use Rattle.rank_lasso.proofs.AscendLaws.{ascending}

-- ---- both and all of values

pub record Both {X Y : Type 0} (o : Option X) (p : Option Y) (t : X × Y) : Type 0 where
  pub first : o ≡ Some t.0
  pub second : p ≡ Some t.1

pub both_of : {X Y : Type 0} (o : Option X) (p : Option Y) (t : X × Y) → both o p ≡ Some t → Both o p t
both_of None p t e = absurd (let n : ⊥ = cc in n)
both_of (Some x) None t e = absurd (let n : ⊥ = cc in n)
both_of {X = X} {Y = Y} (Some x) (Some y) t e = let k : (x, y) ≡ t = cc in record { first = ap (λ (u : X × Y). Some u.0) k; second = ap (λ (u : X × Y). Some u.1) k }

-- what holds of each value that is found
each_value : {X Y : Type 0} (f : X → Option Y) (P : Y → Type 0) → ((x : X) (y : Y) → f x ≡ Some y → P y) → (xs : List X) (ys : List Y) → all_some (map f xs) ≡ Some ys → AllByRecursion P ys
each_value f P h [] ys e = let n : [] ≡ ys = cc in subst (AllByRecursion P) n tt
each_value f P h (x ∷ xs) ys e =
    let r = front_of (f x) (all_some (map f xs)) ys e in
    subst (AllByRecursion P) (sym r.joined) (h x r.first r.is, each_value f P h xs r.rest r.others)

some_values : {X Y : Type 0} (f : X → Option Y) (xs : List X) (ys : List Y) → is_some_list xs ≡ true → all_some (map f xs) ≡ Some ys → ys ≢ []
some_values f [] ys h e = absurd (false≢true h)
some_values f (x ∷ xs) ys h e = λ n. let r = front_of (f x) (all_some (map f xs)) ys e in let j = r.joined in let no : ⊥ = cc in no

-- ---- terms

within : (b : Bool) (p width k limit : ℕ) → nat_lt p width ≡ b → option_and_then (if_below limit) (cond b (Some p) None) ≡ Some k → k < width
within true p width k limit t e = by_limit (nat_lt p limit) e
  where
    by_limit : (c : Bool) → cond c (Some p) None ≡ Some k → k < width
    by_limit true e = let same : p ≡ k = cc in let l = ltb-true p width t in omega (arith, same, l)
    by_limit false e = absurd (let n : ⊥ = cc in n)
within false p width k limit t e = absurd (let n : ⊥ = cc in n)

-- a column that is named is one of the frame
column_within : (frame : Columns) (text : List ℕ) (k : ℕ) → column_named frame text ≡ Some k → k < length frame
column_within frame text k e =
    let p = prefix_len (λ c. not (bytes_eq (column_text c) text)) frame in
    within (nat_lt p (length frame)) p (length frame) k (2 ^ 32) refl e

term_within : (frame : Columns) (t : Numeral × List ℕ) (u : ℕ × ℤ) → term_named frame t ≡ Some u → u.0 < length frame
term_within frame t u e = column_within frame t.1 u.0 (both_of (column_named frame t.1) (number_in t.0) u e).first

term_fits : (frame : Columns) (t : Numeral × List ℕ) (u : ℕ × ℤ) → term_named frame t ≡ Some u → Fits u.1
term_fits frame t u e = number_fits t.0 u.1 (both_of (column_named frame t.1) (number_in t.0) u e).second

record Ascending (o : Option (List (ℕ × ℤ))) (ts : List (ℕ × ℤ)) : Type 0 where
  is : o ≡ Some ts
  ascend : terms_ascend ts ≡ true

ascending_of : (o : Option (List (ℕ × ℤ))) (ts : List (ℕ × ℤ)) → if_ascending o ≡ Some ts → Ascending o ts
ascending_of None ts e = absurd (let n : ⊥ = cc in n)
ascending_of (Some us) ts e = by_test (terms_ascend us) refl e
  where
    by_test : (b : Bool) → terms_ascend us ≡ b → cond b (Some us) None ≡ Some ts → Ascending (Some us) ts
    by_test true t e = let same : us ≡ ts = cc in record { is = e; ascend = sym (ap terms_ascend same) ∙ t }
    by_test false t e = absurd (let n : ⊥ = cc in n)

form_over : (frame : Columns) (terms : List (Numeral × List ℕ)) (ts : List (ℕ × ℤ)) → form_named frame terms ≡ Some ts → IsFormOver (length frame) ts
form_over frame terms ts e =
    let a = ascending_of (all_some (map (term_named frame) terms)) ts e in
    record {
      ascends = ascending ts a.ascend;
      within = each_value (term_named frame) (λ (u : ℕ × ℤ). u.0 < length frame) (term_within frame) terms ts a.is;
      coefficients = each_value (term_named frame) (λ (u : ℕ × ℤ). Fits u.1) (term_fits frame) terms ts a.is;
    }

-- ---- refutations

part_fits : (p : Numeral × Numeral) (q : ℕ × ℤ) → named_part p ≡ Some q → Fits q.1
part_fits p q e = number_fits p.1 q.1 (both_of (short_in p.0) (number_in p.1) q e).second

leaf_has : (ps : List (Numeral × Numeral)) (o : Option (List (ℕ × ℤ))) (m : PlainNode) → is_some_list ps ≡ true → all_some (map named_part ps) ≡ o → option_map nodes.leaf o ≡ Some m → HasNumbers m
leaf_has ps None m h e f = absurd (let n : ⊥ = cc in n)
leaf_has ps (Some qs) m h e f =
    let same : nodes.leaf qs ≡ m = cc in
    subst HasNumbers same (some_values named_part ps qs h e, each_value named_part (λ (q : ℕ × ℤ). Fits q.1) part_fits ps qs e)

cut_has : (c k : Numeral) (o : Option (ℕ × ℤ)) (m : PlainNode) → both (short_in c) (number_in k) ≡ o → cut_of o ≡ Some m → HasNumbers m
cut_has c k None m e f = absurd (let n : ⊥ = cc in n)
cut_has c k (Some x) m e f =
    let same : nodes.cut x.0 x.1 ≡ m = cc in
    subst HasNumbers same (number_fits k x.1 (both_of (short_in c) (number_in k) x e).second)

node_has : (n : RefutationNode) (m : PlainNode) → form.is_refutation_node n ≡ true → node_of n ≡ Some m → HasNumbers m
node_has (form.leaf ps) m h e = leaf_has ps (all_some (map named_part ps)) m (both_hold (is_some_list ps) (list_all is_part ps) h).0 refl e
node_has (form.cut c k) m h e = cut_has c k (both (short_in c) (number_in k)) m refl e
node_has (form.cases n) m h e = let same : nodes.cases n ≡ m = cc in subst HasNumbers same tt

nodes_have : (ns : List RefutationNode) (ms : List PlainNode) → list_all form.is_refutation_node ns ≡ true → refutation_of ns ≡ Some ms → AllByRecursion HasNumbers ms
nodes_have [] ms h e = let n : [] ≡ ms = cc in subst (AllByRecursion HasNumbers) n tt
nodes_have (n ∷ ns) ms h e =
    let r = front_of (node_of n) (all_some (map node_of ns)) ms e in
    let k = both_hold (form.is_refutation_node n) (list_all form.is_refutation_node ns) h in
    subst (AllByRecursion HasNumbers) (sym r.joined) (node_has n r.first k.0 r.is, nodes_have ns r.rest k.1 r.others)

tree_has : (ns : List RefutationNode) (ms : List PlainNode) → is_refutation ns ≡ true → refutation_of ns ≡ Some ms → AllByRecursion HasNumbers ms
tree_has ns ms h e = nodes_have ns ms (both_hold (list_all form.is_refutation_node ns) _ h).0 e

-- ---- rankings

-- the parts of a rank that is named
record NamedRank (g : Graph) (terms : List (Numeral × List ℕ)) (bound : Numeral) (falls bounded : List RefutationNode) (r : PlainRanking) : Type 0 where
  form : List (ℕ × ℤ)
  least : ℤ
  falling : List PlainNode
  above : List PlainNode
  form_is : form_named (entry_frame g) terms ≡ Some form
  least_is : number_in bound ≡ Some least
  falling_is : refutation_of falls ≡ Some falling
  above_is : refutation_of bounded ≡ Some above
  is : ranked_by form least falling above ≡ r

named_rank : (g : Graph) (terms : List (Numeral × List ℕ)) (bound : Numeral) (falls bounded : List RefutationNode) (r : PlainRanking) → ranking_named g (rank_form terms bound falls bounded) ≡ Some r →
    NamedRank g terms bound falls bounded r
named_rank g terms bound falls bounded r e =
    by_parts (form_named (entry_frame g) terms) (number_in bound) (refutation_of falls) (refutation_of bounded) refl refl refl refl e
  where
    by_parts : (a : Option (List (ℕ × ℤ))) (b : Option ℤ) (c d : Option (List PlainNode)) → form_named (entry_frame g) terms ≡ a → number_in bound ≡ b → refutation_of falls ≡ c →
        refutation_of bounded ≡ d → option_map rank_with (both (both a b) (both c d)) ≡ Some r → NamedRank g terms bound falls bounded r
    by_parts None b c d h i j k e = absurd (let n : ⊥ = cc in n)
    by_parts (Some x) None c d h i j k e = absurd (let n : ⊥ = cc in n)
    by_parts (Some x) (Some y) None d h i j k e = absurd (let n : ⊥ = cc in n)
    by_parts (Some x) (Some y) (Some z) None h i j k e = absurd (let n : ⊥ = cc in n)
    by_parts (Some x) (Some y) (Some z) (Some w) h i j k e =
        record { form = x; least = y; falling = z; above = w; form_is = h; least_is = i; falling_is = j; above_is = k; is = cc }

excluded_of : (o : Option (List PlainNode)) (r : PlainRanking) → option_map excluded_by o ≡ Some r → (ms : List PlainNode) × (o ≡ Some ms) × (excluded_by ms ≡ r)
excluded_of None r e = absurd (let n : ⊥ = cc in n)
excluded_of (Some ms) r e = (ms, refl, cc)

-- what is named can be checked, and written again
pub named_may_be_written : (g : Graph) (f : RankingForm) (r : PlainRanking) → IsForm f → ranking_named g f ≡ Some r → MayBeWritten g r
named_may_be_written g (rank_form terms bound falls bounded) r h e =
    let k = named_rank g terms bound falls bounded r e in
    subst (MayBeWritten g) k.is (record {
      over = record { form = form_over (entry_frame g) terms k.form k.form_is; bound_fits = number_fits bound k.least k.least_is };
      numbers = (tree_has falls k.falling h.falls_spells.tree k.falling_is, tree_has bounded k.above h.bounded_spells.tree k.above_is);
    })
named_may_be_written g (excluded_form nodes) r h e =
    let k = excluded_of (refutation_of nodes) r e in
    subst (MayBeWritten g) k.2 (record { over = tt; numbers = tree_has nodes k.0 h.tree k.1 })

-- no line of what is named is bad
pub named_is_not_bad : (g : Graph) (f : RankingForm) (r : PlainRanking) (line : ℕ) → ranking_named g f ≡ Some r → bad_line g f ≡ Some line → ⊥
named_is_not_bad g (rank_form terms bound falls bounded) r line e b =
    let k = named_rank g terms bound falls bounded r e in
    let t = ap is_some k.form_is in
    let n = ap is_some k.least_is in
    let f = ap is_some k.falling_is in
    let a = ap is_some k.above_is in
    let none : bad_line g (rank_form terms bound falls bounded) ≡ None = (λ i. first_unnamed 4 (t i ∷ n i ∷ f i ∷ a i ∷ [])) in
    let no : ⊥ = cc in no
named_is_not_bad g (excluded_form nodes) r line e b =
    let k = excluded_of (refutation_of nodes) r e in
    let t = ap is_some k.1 in
    let none : bad_line g (excluded_form nodes) ≡ None = (λ i. first_unnamed 4 (t i ∷ [])) in
    let no : ⊥ = cc in no

-- ---- names by lines

-- the parts of a rank name it
pub rank_is_named : (g : Graph) (terms : List (Numeral × List ℕ)) (bound : Numeral) (falls bounded : List RefutationNode) (ts : List (ℕ × ℤ)) (b : ℤ) (p q : List PlainNode) →
    Some ts ≡ form_named (entry_frame g) terms → Some b ≡ number_in bound → Some p ≡ refutation_of falls → Some q ≡ refutation_of bounded →
    ranking_named g (rank_form terms bound falls bounded) ≡ Some (ranked_by ts b p q)
rank_is_named g terms bound falls bounded ts b p q h i j k =
    sym (λ n. option_map rank_with (both (both (h n) (i n)) (both (j n) (k n))))

-- the first line of which a part is missing
pub form_is_bad : (g : Graph) (terms : List (Numeral × List ℕ)) (bound : Numeral) (falls bounded : List RefutationNode) → None ≡ form_named (entry_frame g) terms →
    bad_line g (rank_form terms bound falls bounded) ≡ Some 4
form_is_bad g terms bound falls bounded h =
    sym (λ n. first_unnamed 4 (is_some (h n) ∷ is_some (number_in bound) ∷ is_some (refutation_of falls) ∷ is_some (refutation_of bounded) ∷ []))

pub bound_is_bad : (g : Graph) (terms : List (Numeral × List ℕ)) (bound : Numeral) (falls bounded : List RefutationNode) (ts : List (ℕ × ℤ)) → Some ts ≡ form_named (entry_frame g) terms →
    None ≡ number_in bound → bad_line g (rank_form terms bound falls bounded) ≡ Some 5
bound_is_bad g terms bound falls bounded ts h i =
    sym (λ n. first_unnamed 4 (is_some (h n) ∷ is_some (i n) ∷ is_some (refutation_of falls) ∷ is_some (refutation_of bounded) ∷ []))

pub falls_is_bad : (g : Graph) (terms : List (Numeral × List ℕ)) (bound : Numeral) (falls bounded : List RefutationNode) (ts : List (ℕ × ℤ)) (b : ℤ) → Some ts ≡ form_named (entry_frame g) terms →
    Some b ≡ number_in bound → None ≡ refutation_of falls → bad_line g (rank_form terms bound falls bounded) ≡ Some 6
falls_is_bad g terms bound falls bounded ts b h i j =
    sym (λ n. first_unnamed 4 (is_some (h n) ∷ is_some (i n) ∷ is_some (j n) ∷ is_some (refutation_of bounded) ∷ []))

pub bounded_is_bad : (g : Graph) (terms : List (Numeral × List ℕ)) (bound : Numeral) (falls bounded : List RefutationNode) (ts : List (ℕ × ℤ)) (b : ℤ) (p : List PlainNode) →
    Some ts ≡ form_named (entry_frame g) terms → Some b ≡ number_in bound → Some p ≡ refutation_of falls → None ≡ refutation_of bounded → bad_line g (rank_form terms bound falls bounded) ≡ Some 7
bounded_is_bad g terms bound falls bounded ts b p h i j k =
    sym (λ n. first_unnamed 4 (is_some (h n) ∷ is_some (i n) ∷ is_some (j n) ∷ is_some (k n) ∷ []))
