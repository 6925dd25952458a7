-- Which line stands behind which: reading a line finds exactly the lines that can stand there.
use Rattle.std.proofs.Common.{◌≡◌, ◌≢◌, ℕ, ◌+◌, ◌≤◌, Bool, true, false, cond, nat_eq, List, [], ◌∷◌, length, codes, Option, Some, None, Result, Ok, Err, ◌⊎◌, inl, inr, refl, sym, ap, ◌∙◌, subst, arith}
use Rattle.std.proofs.lemmas.Bool.{false≢true}
use Rattle.std.proofs.lemmas.List.{append_cancel_right}
use Rattle.std.proofs.lemmas.Option.{cond_some, none-some, same_Some}
use Rattle.outer_io.specs.Lines.{onto_first, lines_of}
use Rattle.proof_form.specs.declared.lines.StepLine.{StepLine}
use Rattle.proof_form.specs.declared.lines.StepLine.TheVariants as steps
use Rattle.proof_form.specs.declared.drafts.Draft.{Draft}
use Rattle.proof_form.specs.declared.fault.ProofFault.{ProofFault}
use Rattle.proof_form.specs.declared.fault.ProofFault.TheVariants as faults
use Rattle.proof_form.specs.Outcomes.{◌>>=◌}
use Rattle.proof_form.specs.Lines.{Pred, Triple, Node, inside_triple, call_triple, back_triple, pred_text, triple_text, node_text, step_text, is_pred, is_triple, is_node, is_step}
use Rattle.proof_form.specs.LineReading.{checked, pred_of, triple_of, node_of, step_of}
use Rattle.proof_form.specs.Annotations.{Content, ended}
use Rattle.proof_form.specs.Standing.{Item, pred_item, triple_item, node_item, step_item, is_item, item_text, with_item, Adds, end_line, Completes, FirstWrong, no_content}
use Rattle.proof_form.specs.TextReading.{first_line, content_of, checked_pred_of, checked_triple_of, checked_node_of, checked_step_of, with_pred, with_triple, with_node, with_step, with_line, ReadsFrom}
use Rattle.proof_form.proofs.AfterLaws.{bind_some}
use Rattle.proof_form.proofs.LineLaws.{pred_spells, pred_reads, triple_spells, triple_reads, node_spells, node_reads, step_spells, step_reads}
use Rattle.proof_form.proofs.StandingLaws.{first_of_lines, unended, no_end, line_shortens}

-- a line in the grammar
read_checked : {A : Type 0} (o : Option A) (test : A → Bool) (x : A) → (o >>= checked test) ≡ Some x → (o ≡ Some x) × (test x ≡ true)
read_checked o test x h =
    let y = bind_some o (checked test) x h in
    let p = cond_some (test y.0) y.0 x y.2 in
    (y.1 ∙ ap (λ z. Some z) p.1, ap test (sym p.1) ∙ p.0)

check_read : {A : Type 0} (o : Option A) (test : A → Bool) (x : A) → o ≡ Some x → test x ≡ true → (o >>= checked test) ≡ Some x
check_read o test x e h = rw (e, h) refl

-- a line that is read can stand there

pred_adds : (a b : Content) (l : List ℕ) → with_pred a l ≡ Some b → Adds a (ended l) b
unfolding with_pred checked_pred_of
pred_adds a b l h =
    let p = bind_some (checked_pred_of (length a.preds + 2) l) _ b h in
    let c = read_checked (pred_of (length a.preds + 2) l) is_pred p.0 p.1 in
    record { item = pred_item p.0; is = c.1; spelled = ap ended (pred_spells (length a.preds + 2) l p.0 c.0); added = p.2 }

triple_adds : (a b : Content) (l : List ℕ) → with_triple a l ≡ Some b → Adds a (ended l) b
unfolding with_triple checked_triple_of
triple_adds a b l h =
    let p = bind_some (checked_triple_of l) _ b h in
    let c = read_checked (triple_of l) is_triple p.0 p.1 in
    record { item = triple_item p.0; is = c.1; spelled = ap ended (triple_spells l p.0 c.0); added = p.2 }

node_adds : (a b : Content) (l : List ℕ) → with_node a l ≡ Some b → Adds a (ended l) b
unfolding with_node checked_node_of
node_adds a b l h =
    let p = bind_some (checked_node_of (length a.nodes) l) _ b h in
    let c = read_checked (node_of (length a.nodes) l) is_node p.0 p.1 in
    record { item = node_item p.0; is = c.1; spelled = ap ended (node_spells (length a.nodes) l p.0 c.0); added = p.2 }

step_adds : (a b : Content) (l : List ℕ) → with_step a l ≡ Some b → Adds a (ended l) b
unfolding with_step checked_step_of
step_adds a b l h =
    let p = bind_some (checked_step_of l) _ b h in
    let c = read_checked (step_of l) is_step p.0 p.1 in
    record { item = step_item p.0; is = c.1; spelled = ap ended (step_spells l p.0 c.0); added = p.2 }

line_by_adds : (a c : Content) (l : List ℕ) (s t u : Bool) → cond s (with_pred a l) (cond t (with_triple a l) (cond u (with_node a l) (with_step a l))) ≡ Some c → Adds a (ended l) c
line_by_adds a c l true t u h = pred_adds a c l h
line_by_adds a c l false true u h = triple_adds a c l h
line_by_adds a c l false false true h = node_adds a c l h
line_by_adds a c l false false false h = step_adds a c l h

pub line_adds : (a c : Content) (l : List ℕ) → with_line a l ≡ Some c → Adds a (ended l) c
unfolding with_line
line_adds a c [] h = absurd (none-some c h)
line_adds a c (b ∷ bs) h = line_by_adds a c (b ∷ bs) (nat_eq b 112) (nat_eq b 116) (nat_eq b 110) h

-- a line that can stand there is read

pred_read : (a b : Content) (p : Pred) → is_pred p ≡ true → with_item a (pred_item p) ≡ Some b → with_pred a (pred_text (length a.preds + 2) p) ≡ Some b
unfolding with_pred checked_pred_of
pred_read a b p h e =
    let k = length a.preds + 2 in
    ap (λ o. o >>= λ q. with_item a (pred_item q)) (check_read (pred_of k (pred_text k p)) is_pred p (pred_reads k p h) h) ∙ e

triple_read : (a b : Content) (t : Triple) → is_triple t ≡ true → with_item a (triple_item t) ≡ Some b → with_triple a (triple_text t) ≡ Some b
unfolding with_triple checked_triple_of
triple_read a b t h e = ap (λ o. o >>= λ u. with_item a (triple_item u)) (check_read (triple_of (triple_text t)) is_triple t (triple_reads t h) h) ∙ e

node_read : (a b : Content) (x : Node) → is_node x ≡ true → with_item a (node_item x) ≡ Some b → with_node a (node_text (length a.nodes) x) ≡ Some b
unfolding with_node checked_node_of
node_read a b x h e =
    let n = length a.nodes in
    ap (λ o. o >>= λ y. with_item a (node_item y)) (check_read (node_of n (node_text n x)) is_node x (node_reads n x h) h) ∙ e

step_read : (a b : Content) (s : StepLine) → is_step s ≡ true → with_item a (step_item s) ≡ Some b → with_step a (step_text s) ≡ Some b
unfolding with_step checked_step_of
step_read a b s h e = ap (λ o. o >>= λ t. with_item a (step_item t)) (check_read (step_of (step_text s)) is_step s (step_reads s h) h) ∙ e

item_read : (a b : Content) (x : Item) → is_item x ≡ true → with_item a x ≡ Some b → with_line a (item_text a x) ≡ Some b
unfolding with_line
item_read a b (pred_item p) h e = pred_read a b p h e
item_read a b (triple_item (inside_triple f l t r)) h e = triple_read a b (inside_triple f l t r) h e
item_read a b (triple_item (call_triple f l t r)) h e = triple_read a b (call_triple f l t r) h e
item_read a b (triple_item (back_triple x f l t r)) h e = triple_read a b (back_triple x f l t r) h e
item_read a b (node_item x) h e = node_read a b x h e
item_read a b (step_item (steps.Step f l t)) h e = step_read a b (steps.Step f l t) h e
item_read a b (step_item (steps.Back x c l t)) h e = step_read a b (steps.Back x c l t) h e

pub adds_read : (a b : Content) (l : List ℕ) → Adds a (ended l) b → with_line a l ≡ Some b
adds_read a b l h = ap (with_line a) (append_cancel_right l (item_text a h.item) (10 ∷ []) h.spelled) ∙ item_read a b h.item h.is h.added

-- what stands with a line is one
pub adds_once : (a b c : Content) (l : List ℕ) → Adds a l b → Adds a l c → b ≡ c
adds_once a b c l h k =
    let first = item_read a b h.item h.is h.added in
    let second = adds_read a c (item_text a h.item) (record { item = k.item; is = k.is; spelled = sym h.spelled ∙ k.spelled; added = k.added }) in
    same_Some b c (sym first ∙ second)

-- whether the first letter is that of the end
abbrev begins_as_end : List ℕ → Bool
begins_as_end [] = false
begins_as_end (b ∷ bs) = nat_eq b 101

-- the end is no such line
item_no_end : (a : Content) (x : Item) → ended (item_text a x) ≡ end_line → ⊥
item_no_end a (pred_item p) e = false≢true (ap begins_as_end e)
item_no_end a (triple_item (inside_triple f l t r)) e = false≢true (ap begins_as_end e)
item_no_end a (triple_item (call_triple f l t r)) e = false≢true (ap begins_as_end e)
item_no_end a (triple_item (back_triple x f l t r)) e = false≢true (ap begins_as_end e)
item_no_end a (node_item x) e = false≢true (ap begins_as_end e)
item_no_end a (step_item (steps.Step f l t)) e = false≢true (ap begins_as_end e)
item_no_end a (step_item (steps.Back x c l t)) e = false≢true (ap begins_as_end e)

pub adds_no_end : (a b : Content) (l : List ℕ) → Adds a l b → l ≡ end_line → ⊥
adds_no_end a b l h e = item_no_end a h.item (sym h.spelled ∙ e)

-- The steps of the reading loop

-- a line that is no end and can stand there
pub reads_on : (n : ℕ) (a b : Content) (bs l rest : List ℕ) (r : Result Draft ProofFault) → first_line bs ≡ Some (l, rest) → with_line a l ≡ Some b → ReadsFrom (n + 1) b (lines_of rest) r → ReadsFrom n a (lines_of bs) r
reads_on n a b bs l rest (Ok d) e h k = subst (λ ls. Completes a ls (content_of d)) (sym (first_of_lines bs l rest e)) (inr (b, line_adds a b l h, k))
reads_on n a b bs l rest (Err (faults.Syntax line)) e h k = subst (λ ls. FirstWrong n a ls line) (sym (first_of_lines bs l rest e)) (inr (inr (b, line_adds a b l h, k)))
reads_on n a b bs l rest (Err faults.Memory) e h k = tt

-- a line that is no end and cannot stand there
pub stops_here : (n : ℕ) (a : Content) (bs l rest : List ℕ) → first_line bs ≡ Some (l, rest) → l ≢ codes "end" → with_line a l ≡ None → ReadsFrom n a (lines_of bs) (Err (faults.Syntax n))
stops_here n a bs l rest e ne h =
    subst (λ ls. FirstWrong n a ls n) (sym (first_of_lines bs l rest e))
    (inr (inl (λ same. ne (append_cancel_right l (codes "end") (10 ∷ []) same), λ b adds. none-some b (sym h ∙ adds_read a b l adds), refl)))

-- the end, and nothing behind it
pub ends_here : (n : ℕ) (d : Draft) (bs l rest : List ℕ) → first_line bs ≡ Some (l, rest) → l ≡ codes "end" → rest ≡ [] → ReadsFrom n (content_of d) (lines_of bs) (Ok d)
ends_here n d bs l rest e is none =
    subst (λ ls. Completes (content_of d) ls (content_of d)) (sym (first_of_lines bs l rest e)) (inl (ap ended is, ap lines_of none, refl))

-- the end, and more behind it
some_lines : (b : ℕ) (bs : List ℕ) → lines_of (b ∷ bs) ≢ []
some_lines b bs = here (nat_eq b 10) (lines_of bs)
  where
    here : (t : Bool) (ls : List (List ℕ)) → cond t ((b ∷ []) ∷ ls) (onto_first b ls) ≢ []
    here true ls e = let no : ⊥ = cc in no
    here false [] e = let no : ⊥ = cc in no
    here false (l ∷ ls) e = let no : ⊥ = cc in no

pub ends_too_early : (n : ℕ) (a : Content) (bs l rest : List ℕ) → first_line bs ≡ Some (l, rest) → l ≡ codes "end" → rest ≢ [] → ReadsFrom n a (lines_of bs) (Err (faults.Syntax (n + 1)))
ends_too_early n a bs l [] e is some = absurd (some refl)
ends_too_early n a bs l (b ∷ rest) e is some =
    subst (λ ls. FirstWrong n a ls (n + 1)) (sym (first_of_lines bs l (b ∷ rest) e)) (inl (ap ended is, some_lines b rest, refl))

-- no line with an end
pub lines_end : (n : ℕ) (a : Content) (bs : List ℕ) → first_line bs ≡ None → ReadsFrom n a (lines_of bs) (Err (faults.Syntax n))
lines_end n a bs h = here (unended bs h)
  where
    here : ((bs ≡ []) × (lines_of bs ≡ [])) ⊎ (lines_of bs ≡ bs ∷ []) → FirstWrong n a (lines_of bs) n
    here (inl e) = subst (λ ls. FirstWrong n a ls n) (sym e.1) refl
    here (inr e) = subst (λ ls. FirstWrong n a ls n) (sym e)
        (inr (inl (λ same. no_end bs (codes "end") h same, λ b adds. no_end bs (item_text a adds.item) h adds.spelled, refl)))

-- What the lines from here on are read as, all lines are read as, of which the first has that number.
pub record Leads (n first : ℕ) (a : Content) (rest all : List ℕ) : Type 0 where
  pub leads : (r : Result Draft ProofFault) → ReadsFrom n a (lines_of rest) r → ReadsFrom first no_content (lines_of all) r
  pub within : n + length rest ≤ first + length all

pub leads_begin : (first : ℕ) (a : Content) (all : List ℕ) → a ≡ no_content → Leads first first a all all
leads_begin first a all e = record { leads = λ r h. subst (λ (b : Content). ReadsFrom first b (lines_of all) r) e h; within = omega arith }

pub leads_on : (n first : ℕ) (a b : Content) (bs l rest all : List ℕ) → first_line bs ≡ Some (l, rest) → with_line a l ≡ Some b → Leads n first a bs all → Leads (n + 1) first b rest all
leads_on n first a b bs l rest all e h k =
    let s = line_shortens bs l rest e in
    let w = k.within in
    record { leads = λ r more. k.leads r (reads_on n a b bs l rest r e h more); within = omega arith }
