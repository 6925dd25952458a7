-- What is written of a ranking spells it.
use Rattle.std.proofs.Common.{◌≡◌, ℕ, zero, suc, ◌^◌, ◌<◌, true, List, [], ◌∷◌, ◌++◌, map, length, get_or, codes, Option, None, Some, refl, sym, ap, ◌∙◌, subst, arith, append_assoc}
use Rattle.std.specs.Prelude.{ℤ, pos, negsuc, unsigned_abs, slice_get, is_some, IsTrue, Result, Ok, Err, OnOk, is_ok, if◌then◌else◌}
use Rattle.std.specs.List.{AllByRecursion, concat, list_all}
use Rattle.std.specs.Option.{option_map}
use Rattle.std.specs.Fmt.{decimal, signed_decimal}
use Rattle.math_facts.specs.Fits.{Fits}
use Rattle.boogie_tree.specs.declared.tree.Column.{Column}
use Rattle.boogie_tree.specs.declared.tree.VarInfo.{VarInfo}
use Rattle.letter_acts.specs.Frames.{Columns}
use Rattle.letter_acts.specs.Invariant.{Graph}
use Rattle.farkas_check.specs.Nodes as nodes
use Rattle.farkas_check.specs.Nodes.{PlainNode}
use Rattle.proof_form.specs.declared.numerals.Numeral.{Numeral}
use Rattle.proof_form.specs.Names.{is_column}
use Rattle.proof_form.specs.Numerals.{is_numeral, numeral_text}
use Rattle.proof_form.specs.Predicates.{term_text}
use Rattle.proof_form.specs.Refutations.{RefutationNode, leaf, cut, cases, is_refutation, refutation_text}
use Rattle.proof_names.specs.Columns.{column_text, column_named}
use Rattle.proof_names.specs.Numbers.{short_in, number_in}
use Rattle.proof_names.specs.Options.{both, with_first, all_some}
use Rattle.proof_names.specs.Predicates.{term_named}
use Rattle.proof_names.specs.Refutations.{named_part, cut_of, node_of, refutation_of}
use Rattle.proof_names.proofs.AllLaws.{front_of}
use Rattle.proof_names.specs.ProofSpell.Spelled.{Writes, is_negative}
use Rattle.proof_names.specs.ProofSpell.Nodes.{IsReadable}
use Rattle.proof_names.proofs.ProofSpell.NumeralLaws.{integer_writes, writes_number}
use Rattle.proof_names.proofs.ProofSpell.NameLaws.{column_found}
use Rattle.rank_lasso.specs.LassoTurns.Claims.{IsFormOver}
use Rattle.rank_lasso.specs.LassoRanks.Lassos.{PlainLasso}
use Rattle.rank_lasso.specs.LassoRanks.Ranks.{PlainRanking, ranked_by, excluded_by, IsRankOver}
use Rattle.rank_lasso.specs.LassoText.{IsWritable, letters_line}
use Rattle.rank_lasso.specs.RankingText.{rank_form, excluded_form, is_rank_term, rows_are_short, rank_line, bound_line, proof_line, ending_lines}
use Rattle.rank_lasso.specs.Naming.{entry_frame, if_ascending, form_named, rank_with}
use Rattle.rank_lasso.specs.Lines.{line_text}
use Rattle.rank_lasso.specs.Ties.Writing.{integer_form, column_name, term_form, IsSpelled, WritesProof, WritesEnding}
use Rattle.rank_lasso.specs.Faults.{IsReadAs}
use Rattle.rank_lasso.proofs.AscendLaws.{ascending_test}
use Rattle.rank_lasso.proofs.NamingLaws.{both_of}

-- ---- numbers

-- the numeral of a number is what is printed of it
pub integer_text : (z : ℤ) → numeral_text (integer_form z) ≡ signed_decimal z
integer_text (pos n) = refl
integer_text (negsuc n) = refl

integer_written : (z : ℤ) → Fits z → Writes (integer_form z) z
integer_written z f = integer_writes z (is_negative z) (decimal (unsigned_abs z)) f refl refl

pub integer_valid : (z : ℤ) → Fits z → is_numeral (integer_form z) ≡ true
integer_valid z f = (integer_written z f).valid

pub integer_read : (z : ℤ) → Fits z → number_in (integer_form z) ≡ Some z
integer_read z f = writes_number (integer_form z) z (integer_written z f) f

-- ---- terms

has : {A : Type 0} (P : A → Type 0) (xs : List A) (k : ℕ) (x : A) → AllByRecursion P xs → slice_get xs k ≡ Some x → P x
has P [] k x h e = absurd (let n : ⊥ = cc in n)
has P (y ∷ xs) zero x h e = let same : y ≡ x = cc in subst P same h.0
has P (y ∷ xs) (suc k) x h e = has P xs k x h.1 e

-- the name of a column names it, and the numeral of a coefficient the coefficient
pub term_spelled : (frame : Columns) (t : ℕ × ℤ) (c : Column × VarInfo) → IsReadable frame → slice_get frame t.0 ≡ Some c → t.0 < 2 ^ 32 → Fits t.1 → IsSpelled frame t
term_spelled frame t c r e l f = record {
  valid = rw (integer_valid t.1 f) (ap (λ o. is_column (column_name o)) e ∙ has (λ x. IsTrue (is_column (column_text x))) frame t.0 c r.valid e);
  named =
      ap (λ o. both (column_named frame (column_name o)) (number_in (integer_form t.1))) e
      ∙ ap (λ o. both o (number_in (integer_form t.1))) (column_found frame t.0 c r e l)
      ∙ ap (both (Some t.0)) (integer_read t.1 f);
}

-- the text of a term, as it is put together
pub term_written : (frame : Columns) (t : ℕ × ℤ) (c : Column × VarInfo) (old middle new number name : List ℕ) → slice_get frame t.0 ≡ Some c → number ≡ 32 ∷ (signed_decimal t.1 ++ 32 ∷ []) →
    name ≡ column_text c → middle ≡ old ++ number → new ≡ middle ++ name → new ≡ old ++ term_text (term_form frame t)
term_written frame t c old middle new number name e n m i j =
    j ∙ ap (λ x. x ++ name) i ∙ append_assoc old number name
    ∙ ap (λ x. old ++ x) (ap (λ x. x ++ name) n ∙ ap (λ x. (32 ∷ (signed_decimal t.1 ++ 32 ∷ [])) ++ x) m
    ∙ ap (λ x. 32 ∷ x) (append_assoc (signed_decimal t.1) (32 ∷ []) (column_text c))
    ∙ ap (λ x. 32 ∷ (x ++ 32 ∷ column_text c)) (sym (integer_text t.1))
    ∙ ap (λ o. 32 ∷ (numeral_text (integer_form t.1) ++ 32 ∷ column_name o)) (sym e))

-- an element of a list of which all are so
pub each_got : {A : Type 0} (P : A → Type 0) (xs : List A) (i : ℕ) (d : A) → AllByRecursion P xs → i < length xs → P (get_or xs i d)
each_got P [] i d h l = absurd (omega arith)
each_got P (x ∷ xs) zero d h l = h.0
each_got P (x ∷ xs) (suc i) d h l = each_got P xs i d h.1 (omega arith)

all_named : (frame : Columns) (ts : List (ℕ × ℤ)) → AllByRecursion (IsSpelled frame) ts → all_some (map (term_named frame) (map (term_form frame) ts)) ≡ Some ts
all_named frame [] h = refl
all_named frame (t ∷ ts) h = let first = h.0.named in let rest = all_named frame ts h.1 in (λ i. with_first (first i) (rest i))

all_valid : (frame : Columns) (ts : List (ℕ × ℤ)) → AllByRecursion (IsSpelled frame) ts → list_all is_rank_term (map (term_form frame) ts) ≡ true
all_valid frame [] h = refl
all_valid frame (t ∷ ts) h = rw (h.0.valid, all_valid frame ts h.1) refl

form_is_named : (frame : Columns) (width : ℕ) (ts : List (ℕ × ℤ)) → IsFormOver width ts → AllByRecursion (IsSpelled frame) ts → form_named frame (map (term_form frame) ts) ≡ Some ts
form_is_named frame width ts o h = ap if_ascending (all_named frame ts h) ∙ ap (λ b. if b then Some ts else None) (ascending_test ts o.ascends)

-- ---- refutations

short_parts : (ps : List (Numeral × Numeral)) (qs : List (ℕ × ℤ)) → all_some (map named_part ps) ≡ Some qs → list_all (λ p. is_some (short_in p.0)) ps ≡ true
short_parts [] qs e = refl
short_parts (p ∷ ps) qs e =
    let r = front_of (named_part p) (all_some (map named_part ps)) qs e in
    let b = both_of (short_in p.0) (number_in p.1) r.first r.is in
    rw (ap is_some b.first, short_parts ps r.rest r.others) refl

short_leaf : (ps : List (Numeral × Numeral)) (o : Option (List (ℕ × ℤ))) (m : PlainNode) → all_some (map named_part ps) ≡ o → option_map nodes.leaf o ≡ Some m → rows_are_short (leaf ps) ≡ true
short_leaf ps None m e f = absurd (let n : ⊥ = cc in n)
short_leaf ps (Some qs) m e f = short_parts ps qs e

short_cut : (c k : Numeral) (o : Option (ℕ × ℤ)) (m : PlainNode) → both (short_in c) (number_in k) ≡ o → cut_of o ≡ Some m → rows_are_short (cut c k) ≡ true
short_cut c k None m e f = absurd (let n : ⊥ = cc in n)
short_cut c k (Some x) m e f = ap is_some (both_of (short_in c) (number_in k) x e).first

short_node : (n : RefutationNode) (m : PlainNode) → node_of n ≡ Some m → rows_are_short n ≡ true
short_node (leaf ps) m e = short_leaf ps (all_some (map named_part ps)) m refl e
short_node (cut c k) m e = short_cut c k (both (short_in c) (number_in k)) m refl e
short_node (cases n) m e = refl

short_tree : (ns : List RefutationNode) (ms : List PlainNode) → refutation_of ns ≡ Some ms → list_all rows_are_short ns ≡ true
short_tree [] ms e = refl
short_tree (n ∷ ns) ms e =
    let r = front_of (node_of n) (all_some (map node_of ns)) ms e in
    rw (short_node n r.first r.is, short_tree ns r.rest r.others) refl

proof_regrouped : (old word text : List ℕ) → (((old ++ word) ++ 32 ∷ []) ++ text) ++ 10 ∷ [] ≡ old ++ (word ++ (32 ∷ (text ++ 10 ∷ [])))
proof_regrouped old word text = simp append_assoc

-- a refutation was written
pub proof_written : (word : List ℕ) (proof : List PlainNode) (ns : List RefutationNode) (old a b c new text : List ℕ) → is_refutation ns ≡ true → refutation_of ns ≡ Some proof →
    refutation_text ns ≡ 32 ∷ text → a ≡ old ++ word → b ≡ a ++ 32 ∷ [] → c ≡ b ++ text → new ≡ c ++ 10 ∷ [] → WritesProof word proof old new
proof_written word proof ns old a b c new text valid named value i j k n = record {
  nodes = ns;
  is_form = record { tree = valid; short = short_tree ns proof named };
  named = named;
  spelled =
      n ∙ ap (λ x. x ++ 10 ∷ []) (k ∙ ap (λ x. x ++ text) (j ∙ ap (λ x. x ++ 32 ∷ []) i)) ∙ proof_regrouped old word text
      ∙ ap (λ x. old ++ (word ++ (x ++ 10 ∷ []))) (sym value);
}

-- ---- the lines behind the loop

five_regrouped : (old r b f g e : List ℕ) → ((((old ++ r) ++ b) ++ f) ++ g) ++ e ≡ old ++ (r ++ (b ++ (f ++ (g ++ e))))
five_regrouped old r b f g e = simp append_assoc

-- a rank was written
pub rank_written : (g : Graph) (ts : List (ℕ × ℤ)) (bound : ℤ) (falls bounded : List PlainNode) (old a b c d new : List ℕ) → IsRankOver (length (entry_frame g)) ts bound →
    AllByRecursion (IsSpelled (entry_frame g)) ts → a ≡ old ++ rank_line (map (term_form (entry_frame g)) ts) → b ≡ a ++ bound_line (integer_form bound) →
    WritesProof (codes "falls") falls b c → WritesProof (codes "bounded") bounded c d → new ≡ d ++ codes "end\n" → WritesEnding g (ranked_by ts bound falls bounded) old new
rank_written g ts bound falls bounded old a b c d new over spelled i j p q n =
    let terms = map (term_form (entry_frame g)) ts in
    let form_is = form_is_named (entry_frame g) (length (entry_frame g)) ts over.form spelled in
    let bound_is = integer_read bound over.bound_fits in
    let falls_is = p.named in
    let bounded_is = q.named in
    record {
      form = rank_form terms (integer_form bound) p.nodes q.nodes;
      is_form = record {
        terms_spell = all_valid (entry_frame g) ts spelled;
        bound_spells = integer_valid bound over.bound_fits;
        falls_spells = p.is_form;
        bounded_spells = q.is_form;
      };
      named = (λ i. option_map rank_with (both (both (form_is i) (bound_is i)) (both (falls_is i) (bounded_is i))));
      spelled =
          n ∙ ap (λ x. x ++ codes "end\n") (q.spelled ∙ ap (λ x. x ++ proof_line (codes "bounded") q.nodes) (p.spelled ∙ ap (λ x. x ++ proof_line (codes "falls") p.nodes)
          (j ∙ ap (λ x. x ++ bound_line (integer_form bound)) i)))
          ∙ five_regrouped old (rank_line terms) (bound_line (integer_form bound)) (proof_line (codes "falls") p.nodes) (proof_line (codes "bounded") q.nodes) (codes "end\n");
    }

-- an exclusion was
pub exclusion_written : (g : Graph) (proof : List PlainNode) (old a new : List ℕ) → WritesProof (codes "excluded") proof old a → new ≡ a ++ codes "end\n" → WritesEnding g (excluded_by proof) old new
exclusion_written g proof old a new p n = record {
  form = excluded_form p.nodes;
  is_form = p.is_form;
  named = ap (option_map excluded_by) p.named;
  spelled = n ∙ ap (λ x. x ++ codes "end\n") p.spelled ∙ append_assoc old (proof_line (codes "excluded") p.nodes) (codes "end\n");
}

-- ---- all

pub ranking_written : (g : Graph) (l : PlainLasso) (r : PlainRanking) (old new : List ℕ) → IsWritable l →
    old ≡ (line_text (codes "ranking 1") [] ++ letters_line (codes "stem") l.stem) ++ letters_line (codes "loop") l.loop → WritesEnding g r old new → IsReadAs g new l r
ranking_written g l r old new w way h =
    let first = line_text (codes "ranking 1") [] in
    let stem = letters_line (codes "stem") l.stem in
    let loop = letters_line (codes "loop") l.loop in
    let rest = concat (ending_lines h.form) in
    record {
      form = h.form;
      writable = w;
      is_form = h.is_form;
      spelled = h.spelled ∙ ap (λ x. x ++ rest) way ∙ append_assoc (first ++ stem) loop rest ∙ append_assoc first stem (loop ++ rest);
      named = h.named;
    }

-- a line of letters was written
pub letters_written : (old word a new end letters : List ℕ) → a ≡ (old ++ word) ++ letters → new ≡ a ++ end → new ≡ old ++ (word ++ (letters ++ end))
letters_written old word a new end letters i j = j ∙ ap (λ x. x ++ end) i ∙ append_assoc (old ++ word) letters end ∙ append_assoc old word (letters ++ end)

-- what follows where bytes were appended
pub appended : {T E : Type 0} (r : Result T E) (new more old : List ℕ) (Q : Type 0) → new ≡ (if is_ok r then more else old) → (new ≡ more → Q) → OnOk r Q
appended (Ok x) new more old Q e f = f e
appended (Err y) new more old Q e f = tt
