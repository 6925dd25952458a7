-- The numbers of the procedures of a list, one procedure after the other.
use Rattle.std.proofs.Common.{◌≡◌, ◌∙◌, ◌<◌, ◌^◌, ℕ, ◌+◌, List, [], ◌∷◌, ◌++◌, map, length, drop, get_or, append_assoc, ap, sym, subst}
use Rattle.std.proofs.lemmas.List.{drop_more}
use Rattle.typed_tree.specs.declared.types.TProc.{TProc}
use Rattle.typed_tree.specs.TypedTree.{TypedProcedure}
use Rattle.typed_tree.specs.TypedView.{procedure}
use Rattle.typed_tree.specs.TypingRules.Counts.{body_assertions, body_points, procedure_places, all_places}
use Rattle.boogie_run.specs.declared.boogie_points.numbers.First.{First}
use Rattle.boogie_run.specs.BoogiePoints.Numbered.{first_numbers, numbered}

behind : (xs : List TProc) (i : ℕ) (x : TProc) → i < length xs → x ≡ get_or xs i x → drop i xs ≡ x ∷ drop (i + 1) xs
behind xs i x h g = drop_more xs i x h ∙ ap (λ (y : TProc). y ∷ drop (i + 1) xs) (sym g)

-- the places of the next procedure, and those of the ones behind it
pub parted : (procs : List TypedProcedure) (xs : List TProc) (i : ℕ) (x : TProc) (n : ℕ) → i < length xs → x ≡ get_or xs i x → n + all_places procs (map procedure (drop i xs)) < 2 ^ 32 →
    n + (procedure_places procs (procedure x) + all_places procs (map procedure (drop (i + 1) xs))) < 2 ^ 32
parted procs xs i x n h g room = subst (λ (ys : List TProc). n + all_places procs (map procedure ys) < 2 ^ 32) (behind xs i x h g) room

-- the numbers of one procedure more
pub numbered_on : (procs : List TypedProcedure) (xs : List TProc) (i : ℕ) (x : TProc) (id at m n : ℕ) (found new whole : List First) (f : First) → i < length xs → x ≡ get_or xs i x →
    new ≡ found ++ f ∷ [] → f ≡ first_numbers procs id at (procedure x) (procedure x).body → m ≡ body_assertions procs (procedure x).specs (procedure x).body →
    n ≡ body_points procs (procedure x).specs (procedure x).body → found ++ numbered procs id at (map procedure (drop i xs)) ≡ whole →
    new ++ numbered procs (id + m) (at + n) (map procedure (drop (i + 1) xs)) ≡ whole
numbered_on procs xs i x id at m n found new whole f h g e first asserted placed so_far =
    let rest : List TypedProcedure = map procedure (drop (i + 1) xs) in
    let own : First = first_numbers procs id at (procedure x) (procedure x).body in
    ap (λ (zs : List First). zs ++ numbered procs (id + m) (at + n) rest) e ∙ append_assoc found (f ∷ []) (numbered procs (id + m) (at + n) rest)
    ∙ ap (λ (y : First). found ++ y ∷ numbered procs (id + m) (at + n) rest) first ∙ ap (λ (k : ℕ). found ++ own ∷ numbered procs (id + k) (at + n) rest) asserted
    ∙ ap (λ (k : ℕ). found ++ own ∷ numbered procs (id + body_assertions procs (procedure x).specs (procedure x).body) (at + k) rest) placed
    ∙ sym (ap (λ (ys : List TProc). found ++ numbered procs id at (map procedure ys)) (behind xs i x h g)) ∙ so_far
