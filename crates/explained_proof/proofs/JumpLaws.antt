-- Along lists of statements: the labels that they pass, and the breaks in them.
use Rattle.std.proofs.Common.{◌≡◌, ◌∙◌, ℕ, ◌+◌, ◌<◌, ◌≤◌, Bool, true, false, List, ◌∷◌, length, drop, get_or, sym, ap}
use Rattle.std.specs.Prelude.{◌||◌}
use Rattle.std.proofs.lemmas.List.{drop_more, drop_all}
use Rattle.boogie_tree.specs.declared.tree.Stmt.{Stmt}
use Rattle.boogie_tree.specs.View as seen
use Rattle.typed_tree.specs.declared.types.TStmt.{TStmt}
use Rattle.typed_tree.specs.TypedView as typed
use Rattle.explained_proof.specs.Backwards.{Labels, jump, jumps, passing, passing_all, breaks_to, some_breaks_to}

pub jumps_on : (ns : List ℕ) (i : ℕ) (l new whole : Labels) → i < length ns → jumps (drop i ns) l ≡ whole → new ≡ jump (get_or ns i 0) l → jumps (drop (i + 1) ns) new ≡ whole
jumps_on ns i l new whole k was e = ap (jumps (drop (i + 1) ns)) e ∙ ap (λ ms. jumps ms l) (sym (drop_more ns i 0 k)) ∙ was

pub jumps_end : (ns : List ℕ) (i : ℕ) (l whole : Labels) → length ns ≤ i → jumps (drop i ns) l ≡ whole → l ≡ whole
jumps_end ns i l whole k was = ap (λ ms. jumps ms l) (sym (drop_all i ns k)) ∙ was

-- the list from a place on
typed_from : (ss : List TStmt) (i : ℕ) (s : TStmt) → i < length ss → s ≡ get_or ss i s → drop i ss ≡ s ∷ drop (i + 1) ss
typed_from ss i s k h = drop_more ss i s k ∙ ap (λ (t : TStmt). t ∷ drop (i + 1) ss) (sym h)

pub passed_on : (ss : List TStmt) (i : ℕ) (s : TStmt) (l new whole : Labels) → i < length ss → s ≡ get_or ss i s → passing_all (typed.statements (drop i ss)) l ≡ whole →
    new ≡ passing (typed.statement s) l → passing_all (typed.statements (drop (i + 1) ss)) new ≡ whole
passed_on ss i s l new whole k h was e =
    ap (passing_all (typed.statements (drop (i + 1) ss))) e ∙ ap (λ (ts : List TStmt). passing_all (typed.statements ts) l) (sym (typed_from ss i s k h)) ∙ was

pub passed_end : (ss : List TStmt) (i : ℕ) (l whole : Labels) → length ss ≤ i → passing_all (typed.statements (drop i ss)) l ≡ whole → l ≡ whole
passed_end ss i l whole k was = ap (λ (ts : List TStmt). passing_all (typed.statements ts) l) (sym (drop_all i ss k)) ∙ was

plain_from : (ss : List Stmt) (i : ℕ) (s : Stmt) → i < length ss → s ≡ get_or ss i s → drop i ss ≡ s ∷ drop (i + 1) ss
plain_from ss i s k h = drop_more ss i s k ∙ ap (λ (t : Stmt). t ∷ drop (i + 1) ss) (sym h)

-- a statement without such a break is passed over
pub breaks_on : (name : List ℕ) (ss : List Stmt) (i : ℕ) (s : Stmt) (whole : Bool) → i < length ss → s ≡ get_or ss i s → some_breaks_to name (seen.statements (drop i ss)) ≡ whole →
    false ≡ breaks_to name (seen.statement s) → some_breaks_to name (seen.statements (drop (i + 1) ss)) ≡ whole
breaks_on name ss i s whole k h was e =
    ap (λ b. b || some_breaks_to name (seen.statements (drop (i + 1) ss))) e ∙ ap (λ (ts : List Stmt). some_breaks_to name (seen.statements ts)) (sym (plain_from ss i s k h)) ∙ was

pub breaks_here : (name : List ℕ) (ss : List Stmt) (i : ℕ) (s : Stmt) (whole : Bool) → i < length ss → s ≡ get_or ss i s → some_breaks_to name (seen.statements (drop i ss)) ≡ whole →
    true ≡ breaks_to name (seen.statement s) → true ≡ whole
breaks_here name ss i s whole k h was e =
    ap (λ b. b || some_breaks_to name (seen.statements (drop (i + 1) ss))) e ∙ ap (λ (ts : List Stmt). some_breaks_to name (seen.statements ts)) (sym (plain_from ss i s k h)) ∙ was

pub breaks_end : (name : List ℕ) (ss : List Stmt) (i : ℕ) (whole : Bool) → length ss ≤ i → some_breaks_to name (seen.statements (drop i ss)) ≡ whole → false ≡ whole
breaks_end name ss i whole k was = ap (λ (ts : List Stmt). some_breaks_to name (seen.statements ts)) (sym (drop_all i ss k)) ∙ was
