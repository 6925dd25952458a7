-- Statements keep the typing rules where the procedures that they call are renumbered.
use Rattle.std.proofs.Common.{◌≡◌, ℕ, ◌+◌, true, ◌&&◌, List, ◌∷◌, ◌++◌, Option, None, Some, slice_get, refl, sym, ap, ◌∙◌}
use Rattle.std.specs.List.{list_all}
use Rattle.std.proofs.lemmas.Bool.{and_parts, and_from, false≢true}
use Rattle.boogie_tree.specs.declared.tree.Column.{Column}
use Rattle.typed_tree.specs.TypedTree.{TypedExpression, TypedStatement, Assert, Assume, Havoc, Assign, Call, If, While, Break, Goto, Return, Label, TypedBlock, Empty, Then, TypedProcedure}
use Rattle.typed_tree.specs.Scope.{Scope}
use Rattle.typed_tree.specs.TypingRules.Rules.{Context, meets, is_guard, is_invariant, are_targets, is_call, own_labels, is_statement, is_block}
use Rattle.typed_tree.specs.TypingRules.Shape.{params_if_any, are_arguments, is_shaped, is_shaped_block, statement_labels, block_labels}
use Rattle.modular_cut.specs.Parts.{recalled, recalled_block}
use Rattle.modular_cut.proofs.Called.{IsCallee, Renumbers}

module _ (r : ℕ → ℕ) where
  pub own_labels_stay : (b : TypedBlock) → own_labels (recalled_block r b) ≡ own_labels b
  own_labels_stay Empty = refl
  own_labels_stay (Then (Assert at e) b) = own_labels_stay b
  own_labels_stay (Then (Assume at e) b) = own_labels_stay b
  own_labels_stay (Then (Havoc at cs) b) = own_labels_stay b
  own_labels_stay (Then (Assign at cs es) b) = own_labels_stay b
  own_labels_stay (Then (Call at cs f es) b) = own_labels_stay b
  own_labels_stay (Then (If at g x y) b) = own_labels_stay b
  own_labels_stay (Then (While at g is x) b) = own_labels_stay b
  own_labels_stay (Then (Break at n) b) = own_labels_stay b
  own_labels_stay (Then (Goto at ks) b) = own_labels_stay b
  own_labels_stay (Then (Return at) b) = own_labels_stay b
  own_labels_stay (Then (Label n) b) = ap (λ (ns : List ℕ). n ∷ ns) (own_labels_stay b)

  mutual
    statement_labels_stay : (s : TypedStatement) → statement_labels (recalled r s) ≡ statement_labels s
    statement_labels_stay (Assert at e) = refl
    statement_labels_stay (Assume at e) = refl
    statement_labels_stay (Havoc at cs) = refl
    statement_labels_stay (Assign at cs es) = refl
    statement_labels_stay (Call at cs f es) = refl
    statement_labels_stay (If at g x y) = λ i. block_labels_stay x i ++ block_labels_stay y i
    statement_labels_stay (While at g is x) = block_labels_stay x
    statement_labels_stay (Break at n) = refl
    statement_labels_stay (Goto at ks) = refl
    statement_labels_stay (Return at) = refl
    statement_labels_stay (Label n) = refl

    pub block_labels_stay : (b : TypedBlock) → block_labels (recalled_block r b) ≡ block_labels b
    block_labels_stay Empty = refl
    block_labels_stay (Then s b) = λ i. statement_labels_stay s i ++ block_labels_stay b i

module _ (procs parts : List TypedProcedure) (r : ℕ → ℕ) (calls : Renumbers procs parts r) where
  -- what a statement stands under, before and after
  abbrev under : List TypedProcedure → Scope → List ℕ → List ℕ → ℕ → Context
  under ps s ms ls n = record { scope = s; procs = ps; modifies = ms; labels = ls; loops = n }

  call_kept : (s : Scope) (ms ls : List ℕ) (n : ℕ) (cs : List Column) (f : ℕ) (es : List TypedExpression) (o : Option TypedProcedure) → slice_get procs f ≡ o →
      meets (is_call (under procs s ms ls n) cs es) o ≡ true → meets (is_call (under parts s ms ls n) cs es) (slice_get parts (r f)) ≡ true
  call_kept s ms ls n cs f es None e h = absurd (false≢true h)
  call_kept s ms ls n cs f es (Some q) e h =
      let found : IsCallee parts (r f) q = calls f q e in
      ap (meets (is_call (under parts s ms ls n) cs es)) found.is ∙ h

  mutual
    statement_kept : (x : TypedStatement) (s : Scope) (ms ls : List ℕ) (n : ℕ) → is_statement (under procs s ms ls n) x ≡ true → is_statement (under parts s ms ls n) (recalled r x) ≡ true
    statement_kept (Assert at e) s ms ls n h = h
    statement_kept (Assume at e) s ms ls n h = h
    statement_kept (Havoc at cs) s ms ls n h = h
    statement_kept (Assign at cs es) s ms ls n h = h
    statement_kept (Call at cs f es) s ms ls n h =
        let both = and_parts (are_targets (under procs s ms ls n) cs) (meets (is_call (under procs s ms ls n) cs es) (slice_get procs f)) h in
        and_from (are_targets (under parts s ms ls n) cs) (meets (is_call (under parts s ms ls n) cs es) (slice_get parts (r f))) both.0
        (call_kept s ms ls n cs f es (slice_get procs f) refl both.1)
    statement_kept (If at g x y) s ms ls n h =
        let first = and_parts (is_guard s g) (is_block (under procs s ms (own_labels x ++ ls) n) x && is_block (under procs s ms (own_labels y ++ ls) n) y) h in
        let both = and_parts (is_block (under procs s ms (own_labels x ++ ls) n) x) (is_block (under procs s ms (own_labels y ++ ls) n) y) first.1 in
        let then_kept : is_block (under parts s ms (own_labels (recalled_block r x) ++ ls) n) (recalled_block r x) ≡ true =
        ap (λ (ks : List ℕ). is_block (under parts s ms (ks ++ ls) n) (recalled_block r x)) (own_labels_stay r x) ∙ block_kept x s ms (own_labels x ++ ls) n both.0 in
        let else_kept : is_block (under parts s ms (own_labels (recalled_block r y) ++ ls) n) (recalled_block r y) ≡ true =
        ap (λ (ks : List ℕ). is_block (under parts s ms (ks ++ ls) n) (recalled_block r y)) (own_labels_stay r y) ∙ block_kept y s ms (own_labels y ++ ls) n both.1 in
        and_from (is_guard s g) (is_block (under parts s ms (own_labels (recalled_block r x) ++ ls) n) (recalled_block r x) && is_block (under parts s ms (own_labels (recalled_block r y) ++ ls) n) (recalled_block r y))
        first.0
        (and_from (is_block (under parts s ms (own_labels (recalled_block r x) ++ ls) n) (recalled_block r x)) (is_block (under parts s ms (own_labels (recalled_block r y) ++ ls) n) (recalled_block r y)) then_kept else_kept)
    statement_kept (While at g is x) s ms ls n h =
        let first = and_parts (is_guard s g) (list_all (is_invariant s) is && is_block (under procs s ms (own_labels x ++ ls) (n + 1)) x) h in
        let both = and_parts (list_all (is_invariant s) is) (is_block (under procs s ms (own_labels x ++ ls) (n + 1)) x) first.1 in
        let body_kept : is_block (under parts s ms (own_labels (recalled_block r x) ++ ls) (n + 1)) (recalled_block r x) ≡ true =
        ap (λ (ks : List ℕ). is_block (under parts s ms (ks ++ ls) (n + 1)) (recalled_block r x)) (own_labels_stay r x) ∙ block_kept x s ms (own_labels x ++ ls) (n + 1) both.1 in
        and_from (is_guard s g) (list_all (is_invariant s) is && is_block (under parts s ms (own_labels (recalled_block r x) ++ ls) (n + 1)) (recalled_block r x)) first.0
        (and_from (list_all (is_invariant s) is) (is_block (under parts s ms (own_labels (recalled_block r x) ++ ls) (n + 1)) (recalled_block r x)) both.0 body_kept)
    statement_kept (Break at k) s ms ls n h = h
    statement_kept (Goto at ks) s ms ls n h = h
    statement_kept (Return at) s ms ls n h = refl
    statement_kept (Label k) s ms ls n h = refl

    pub block_kept : (b : TypedBlock) (s : Scope) (ms ls : List ℕ) (n : ℕ) → is_block (under procs s ms ls n) b ≡ true → is_block (under parts s ms ls n) (recalled_block r b) ≡ true
    block_kept Empty s ms ls n h = refl
    block_kept (Then x b) s ms ls n h =
        let both = and_parts (is_statement (under procs s ms ls n) x) (is_block (under procs s ms ls n) b) h in
        and_from (is_statement (under parts s ms ls n) (recalled r x)) (is_block (under parts s ms ls n) (recalled_block r b)) (statement_kept x s ms ls n both.0) (block_kept b s ms ls n both.1)

  -- ---- the boolean arguments of each call are simple

  shape_of_call : (f : ℕ) (es : List TypedExpression) (o : Option TypedProcedure) → slice_get procs f ≡ o → (q : TypedProcedure) → o ≡ Some q →
      are_arguments (params_if_any o) es ≡ true → are_arguments (params_if_any (slice_get parts (r f))) es ≡ true
  shape_of_call f es o e q is h =
      let found : IsCallee parts (r f) q = calls f q (e ∙ is) in
      ap (λ (x : Option TypedProcedure). are_arguments (params_if_any x) es) found.is ∙ sym (ap (λ (x : Option TypedProcedure). are_arguments (params_if_any x) es) is) ∙ h

  called_some : (s : Scope) (ms ls : List ℕ) (n : ℕ) (cs : List Column) (es : List TypedExpression) (o : Option TypedProcedure) → meets (is_call (under procs s ms ls n) cs es) o ≡ true →
      (q : TypedProcedure) × (o ≡ Some q)
  called_some s ms ls n cs es None h = absurd (false≢true h)
  called_some s ms ls n cs es (Some q) h = (q, refl)

  mutual
    statement_shaped : (x : TypedStatement) (s : Scope) (ms ls : List ℕ) (n : ℕ) → is_statement (under procs s ms ls n) x ≡ true → is_shaped procs x ≡ true → is_shaped parts (recalled r x) ≡ true
    statement_shaped (Assert at e) s ms ls n k h = refl
    statement_shaped (Assume at e) s ms ls n k h = refl
    statement_shaped (Havoc at cs) s ms ls n k h = refl
    statement_shaped (Assign at cs es) s ms ls n k h = refl
    statement_shaped (Call at cs f es) s ms ls n k h =
        let both = and_parts (are_targets (under procs s ms ls n) cs) (meets (is_call (under procs s ms ls n) cs es) (slice_get procs f)) k in
        let found = called_some s ms ls n cs es (slice_get procs f) both.1 in
        shape_of_call f es (slice_get procs f) refl found.0 found.1 h
    statement_shaped (If at g x y) s ms ls n k h =
        let first = and_parts (is_guard s g) (is_block (under procs s ms (own_labels x ++ ls) n) x && is_block (under procs s ms (own_labels y ++ ls) n) y) k in
        let kept = and_parts (is_block (under procs s ms (own_labels x ++ ls) n) x) (is_block (under procs s ms (own_labels y ++ ls) n) y) first.1 in
        let both = and_parts (is_shaped_block procs x) (is_shaped_block procs y) h in
        and_from (is_shaped_block parts (recalled_block r x)) (is_shaped_block parts (recalled_block r y))
        (block_shaped x s ms (own_labels x ++ ls) n kept.0 both.0) (block_shaped y s ms (own_labels y ++ ls) n kept.1 both.1)
    statement_shaped (While at g is x) s ms ls n k h =
        let first = and_parts (is_guard s g) (list_all (is_invariant s) is && is_block (under procs s ms (own_labels x ++ ls) (n + 1)) x) k in
        let kept = and_parts (list_all (is_invariant s) is) (is_block (under procs s ms (own_labels x ++ ls) (n + 1)) x) first.1 in
        block_shaped x s ms (own_labels x ++ ls) (n + 1) kept.1 h
    statement_shaped (Break at m) s ms ls n k h = refl
    statement_shaped (Goto at ks) s ms ls n k h = refl
    statement_shaped (Return at) s ms ls n k h = refl
    statement_shaped (Label m) s ms ls n k h = refl

    pub block_shaped : (b : TypedBlock) (s : Scope) (ms ls : List ℕ) (n : ℕ) → is_block (under procs s ms ls n) b ≡ true → is_shaped_block procs b ≡ true → is_shaped_block parts (recalled_block r b) ≡ true
    block_shaped Empty s ms ls n k h = refl
    block_shaped (Then x b) s ms ls n k h =
        let kept = and_parts (is_statement (under procs s ms ls n) x) (is_block (under procs s ms ls n) b) k in
        let both = and_parts (is_shaped procs x) (is_shaped_block procs b) h in
        and_from (is_shaped parts (recalled r x)) (is_shaped_block parts (recalled_block r b)) (statement_shaped x s ms ls n kept.0 both.0) (block_shaped b s ms ls n kept.1 both.1)
