-- What is spelled as an annotation is completed by its lines.
use Rattle.std.proofs.Common.{◌≡◌, ℕ, suc, ◌+◌, ◌^◌, ◌<◌, ◌≤◌, Bool, true, List, [], ◌∷◌, ◌++◌, length, map, codes, inl, inr, refl, sym, ap, ◌∙◌, subst, arith, append_assoc, length-append}
use Rattle.std.specs.List.{AllByRecursion, concat, flat_map, list_all}
use Rattle.std.specs.Fmt.{decimal}
use Rattle.std.proofs.lemmas.Fmt.{decimal_injective}
use Rattle.std.proofs.lemmas.List.{append-nil, map-append, append_cancel_left, append_cancel_right}
use Rattle.outer_io.specs.Lines.{lines_of}
use Rattle.proof_form.specs.declared.lines.StepLine.{StepLine}
use Rattle.proof_form.specs.Lines.{Pred, Triple, Node, pred_text, triple_text, node_text, step_text, is_pred, is_triple, is_node, is_step}
use Rattle.proof_form.specs.Annotations.{Content, is_annotation, numbered, item_lines, ended, rounds_line, form_lines, AreShort, safe_text}
use Rattle.proof_form.specs.Beginnings.{with_header}
use Rattle.proof_form.specs.Standing.{pred_item, triple_item, node_item, step_item, end_line, Completes, no_content, WrongBehindSafe, FirstWrongOfText}
use Rattle.proof_form.specs.TextOutcomes.{LacksCoarse}
use Rattle.proof_form.proofs.CoarseLaws.{form_not_wrong, plain_form, same_form}
use Rattle.proof_form.proofs.ListLaws.{no_more_texts}
use Rattle.proof_form.proofs.PlainLaws.{Plain, plain_append, plain_decimal, plain_pred, plain_triple, plain_node, plain_step}
use Rattle.proof_form.proofs.RunLaws.{both_hold}
use Rattle.proof_form.proofs.StandingLaws.{lines_joined, lines_of_plain}
use Rattle.proof_form.proofs.WholeLaws.{completes_spells}

abbrev contents : List Pred → List Triple → List Node → List StepLine → Content
contents ps ts ns ss = record { preds = ps; triples = ts; nodes = ns; steps = ss }

abbrev all_ended : List (List ℕ) → List (List ℕ)
all_ended ls = map ended ls

-- Kind by kind

completes_steps : (ps : List Pred) (ts : List Triple) (ns : List Node) (done ss : List StepLine) (ls : List (List ℕ)) (w : Content) → list_all is_step ss ≡ true → Completes (contents ps ts ns (done ++ ss)) ls w
    → Completes (contents ps ts ns done) (all_ended (map step_text ss) ++ ls) w
completes_steps ps ts ns done [] ls w v h = subst (λ ms. Completes (contents ps ts ns ms) ls w) (append-nil done) h
completes_steps ps ts ns done (s ∷ ss) ls w v h =
    let k = both_hold (is_step s) _ v in
    inr (
      contents ps ts ns (done ++ s ∷ []),
      record { item = step_item s; is = k.0; spelled = refl; added = refl },
      completes_steps ps ts ns (done ++ s ∷ []) ss ls w k.1 (subst (λ ms. Completes (contents ps ts ns ms) ls w) (sym (append_assoc done (s ∷ []) ss)) h),
    )

completes_nodes : (ps : List Pred) (ts : List Triple) (done ns : List Node) (n : ℕ) (ls : List (List ℕ)) (w : Content) → n ≡ length done → list_all is_node ns ≡ true → Completes (contents ps ts (done ++ ns) []) ls w
    → Completes (contents ps ts done []) (all_ended (numbered node_text n ns) ++ ls) w
completes_nodes ps ts done [] n ls w e v h = subst (λ ms. Completes (contents ps ts ms []) ls w) (append-nil done) h
completes_nodes ps ts done (x ∷ ns) n ls w e v h =
    let k = both_hold (is_node x) _ v in
    let l = length-append done (x ∷ []) in
    inr (
      contents ps ts (done ++ x ∷ []) [],
      record { item = node_item x; is = k.0; spelled = ap (λ (m : ℕ). ended (node_text m x)) e; added = refl },
      completes_nodes ps ts (done ++ x ∷ []) ns (suc n) ls w (omega arith) k.1 (subst (λ ms. Completes (contents ps ts ms []) ls w) (sym (append_assoc done (x ∷ []) ns)) h),
    )

completes_triples : (ps : List Pred) (done ts : List Triple) (ls : List (List ℕ)) (w : Content) → list_all is_triple ts ≡ true → Completes (contents ps (done ++ ts) [] []) ls w
    → Completes (contents ps done [] []) (all_ended (map triple_text ts) ++ ls) w
completes_triples ps done [] ls w v h = subst (λ ms. Completes (contents ps ms [] []) ls w) (append-nil done) h
completes_triples ps done (t ∷ ts) ls w v h =
    let k = both_hold (is_triple t) _ v in
    inr (
      contents ps (done ++ t ∷ []) [] [],
      record { item = triple_item t; is = k.0; spelled = refl; added = refl },
      completes_triples ps (done ++ t ∷ []) ts ls w k.1 (subst (λ ms. Completes (contents ps ms [] []) ls w) (sym (append_assoc done (t ∷ []) ts)) h),
    )

completes_preds : (done ps : List Pred) (n : ℕ) (ls : List (List ℕ)) (w : Content) → n ≡ length done + 2 → list_all is_pred ps ≡ true → Completes (contents (done ++ ps) [] [] []) ls w
    → Completes (contents done [] [] []) (all_ended (numbered pred_text n ps) ++ ls) w
completes_preds done [] n ls w e v h = subst (λ ms. Completes (contents ms [] [] []) ls w) (append-nil done) h
completes_preds done (p ∷ ps) n ls w e v h =
    let k = both_hold (is_pred p) _ v in
    let l = length-append done (p ∷ []) in
    inr (
      contents (done ++ p ∷ []) [] [] [],
      record { item = pred_item p; is = k.0; spelled = ap (λ (m : ℕ). ended (pred_text m p)) e; added = refl },
      completes_preds (done ++ p ∷ []) ps (suc n) ls w (omega arith) k.1 (subst (λ ms. Completes (contents ms [] [] []) ls w) (sym (append_assoc done (p ∷ []) ps)) h),
    )

-- the ends of the lines, kind by kind
ended_kinds : (a b c d : List (List ℕ)) (e : List (List ℕ)) → all_ended (a ++ (b ++ (c ++ d))) ++ e ≡ all_ended a ++ (all_ended b ++ (all_ended c ++ (all_ended d ++ e)))
ended_kinds a b c d e =
    ap (λ ls. ls ++ e) (map-append ended a (b ++ (c ++ d)) ∙ ap (λ ls. all_ended a ++ ls) (map-append ended b (c ++ d) ∙ ap (λ ls. all_ended b ++ ls) (map-append ended c d)))
    ∙ append_assoc (all_ended a) (all_ended b ++ (all_ended c ++ all_ended d)) e
    ∙ ap (λ ls. all_ended a ++ ls) (append_assoc (all_ended b) (all_ended c ++ all_ended d) e ∙ ap (λ ls. all_ended b ++ ls) (append_assoc (all_ended c) (all_ended d) e))

pub content_completes : (w : Content) → is_annotation w ≡ true → Completes no_content (all_ended (item_lines w) ++ end_line ∷ []) w
content_completes w v =
    let j = both_hold (list_all is_pred w.preds) _ v in
    let i = both_hold (list_all is_triple w.triples) _ j.1 in
    let g = both_hold (list_all is_node w.nodes) _ i.1 in
    let last : Completes (contents w.preds w.triples w.nodes w.steps) (end_line ∷ []) w = inl (refl, refl, refl) in
    let steps = completes_steps w.preds w.triples w.nodes [] w.steps (end_line ∷ []) w g.1 last in
    let nodes = completes_nodes w.preds w.triples [] w.nodes 0 _ w refl g.0 steps in
    let triples = completes_triples w.preds [] w.triples _ w i.0 nodes in
    let preds = completes_preds [] w.preds 2 _ w refl j.0 triples in
    subst (λ ls. Completes no_content ls w) (sym (ended_kinds (numbered pred_text 2 w.preds) (map triple_text w.triples) (numbered node_text 0 w.nodes) (map step_text w.steps) (end_line ∷ []))) preds

-- The lines of the text

lines_of_all : (ls : List (List ℕ)) (rest : List ℕ) → AllByRecursion Plain ls → lines_of (flat_map ended ls ++ rest) ≡ all_ended ls ++ lines_of rest
lines_of_all [] rest h = refl
lines_of_all (l ∷ ls) rest h =
    ap lines_of (append_assoc (ended l) (flat_map ended ls) rest) ∙ lines_of_plain l (flat_map ended ls ++ rest) h.0 ∙ ap (λ ms. ended l ∷ ms) (lines_of_all ls rest h.1)

both_plain : (a b : List (List ℕ)) → AllByRecursion Plain a → AllByRecursion Plain b → AllByRecursion Plain (a ++ b)
both_plain [] b h k = k
both_plain (l ∷ a) b h k = (h.0, both_plain a b h.1 k)

plain_map : {A : Type 0} (text : A → List ℕ) (test : A → Bool) → ((x : A) → test x ≡ true → Plain (text x)) → (xs : List A) → list_all test xs ≡ true → AllByRecursion Plain (map text xs)
plain_map text test f [] h = tt
plain_map text test f (x ∷ xs) h = let k = both_hold (test x) _ h in (f x k.0, plain_map text test f xs k.1)

plain_numbered : {A : Type 0} (text : ℕ → A → List ℕ) (test : A → Bool) → ((k : ℕ) (x : A) → k < 2 ^ 64 → test x ≡ true → Plain (text k x)) → (n : ℕ) (xs : List A) → n + length xs ≤ 2 ^ 64 → list_all test xs ≡ true → AllByRecursion Plain (numbered text n xs)
plain_numbered text test f n [] l h = tt
plain_numbered text test f n (x ∷ xs) l h = let k = both_hold (test x) _ h in (f n x (omega arith) k.0, plain_numbered text test f (suc n) xs (omega arith) k.1)

plain_items : (w : Content) → is_annotation w ≡ true → length w.preds + 2 ≤ 2 ^ 64 → length w.nodes ≤ 2 ^ 64 → AllByRecursion Plain (item_lines w)
plain_items w v few_preds few_nodes =
    let j = both_hold (list_all is_pred w.preds) _ v in
    let i = both_hold (list_all is_triple w.triples) _ j.1 in
    let g = both_hold (list_all is_node w.nodes) _ i.1 in
    both_plain (numbered pred_text 2 w.preds) (map triple_text w.triples ++ (numbered node_text 0 w.nodes ++ map step_text w.steps)) (plain_numbered pred_text is_pred plain_pred 2 w.preds (omega arith) j.0)
    (both_plain (map triple_text w.triples) (numbered node_text 0 w.nodes ++ map step_text w.steps) (plain_map triple_text is_triple plain_triple w.triples i.0)
    (both_plain (numbered node_text 0 w.nodes) (map step_text w.steps) (plain_numbered node_text is_node plain_node 0 w.nodes (omega arith) g.0) (plain_map step_text is_step plain_step w.steps g.1)))

length_numbered : {A : Type 0} (text : ℕ → A → List ℕ) (n : ℕ) (xs : List A) → length (numbered text n xs) ≡ length xs
length_numbered text n [] = refl
length_numbered text n (x ∷ xs) = ap (λ k. suc k) (length_numbered text (suc n) xs)

-- there are not more predicates or nodes than bytes
few_items : (w : Content) (rest : List ℕ) (size : ℕ) → length (flat_map ended (item_lines w) ++ rest) + 2 ≤ size → (length w.preds + 2 ≤ size) × (length w.nodes ≤ size)
few_items w rest size h =
    let few = no_more_texts ended rest some_byte (item_lines w) in
    let a = length-append (numbered pred_text 2 w.preds) (map triple_text w.triples ++ (numbered node_text 0 w.nodes ++ map step_text w.steps)) in
    let b = length-append (map triple_text w.triples) (numbered node_text 0 w.nodes ++ map step_text w.steps) in
    let c = length-append (numbered node_text 0 w.nodes) (map step_text w.steps) in
    let d = length_numbered pred_text 2 w.preds in
    let e = length_numbered node_text 0 w.nodes in
    (omega arith, omega arith)
  where
    some_byte : (l : List ℕ) → 0 < length (ended l)
    some_byte l = let k = length-append l (10 ∷ []) in omega arith

-- the text behind the header
abbrev pub body_text : Content → List ℕ
body_text w = flat_map ended (item_lines w) ++ end_line

-- a text begins with the header for so many rounds and these coarse letters
pub record HasHeader (text : List ℕ) (rounds : ℕ) (coarse rest : List ℕ) : Type 0 where
  pub lines : lines_of text ≡ with_header rounds coarse (lines_of rest)

pub spelled_header : (rounds : ℕ) (coarse : List ℕ) (w : Content) → rounds < 2 ^ 64 → AreShort coarse → HasHeader (safe_text rounds coarse w) rounds coarse (body_text w)
spelled_header rounds coarse w small short =
    let third = flat_map ended (form_lines coarse) ++ body_text w in
    let second = ended (rounds_line rounds) ++ third in
    record {
      lines = lines_of_plain (codes "safe") second refl ∙ ap (λ ls. ended (codes "safe") ∷ ls) (lines_of_plain (rounds_line rounds) third (plain_append (codes "rounds ") (decimal rounds) refl (plain_decimal rounds small))
          ∙ ap (λ ls. ended (rounds_line rounds) ∷ ls) (lines_of_all (form_lines coarse) (body_text w) (plain_form coarse short)));
    }

pub spelled_completes : (w : Content) → is_annotation w ≡ true → length (body_text w) + 2 ≤ 2 ^ 64 → Completes no_content (lines_of (body_text w)) w
spelled_completes w v l =
    let few = few_items w end_line (2 ^ 64) l in
    let lines : lines_of (body_text w) ≡ all_ended (item_lines w) ++ end_line ∷ [] = lines_of_all (item_lines w) end_line (plain_items w v few.0 few.1) in
    subst (λ ls. Completes no_content ls w) (sym lines) (content_completes w v)

concat_ended : (ls ms : List (List ℕ)) → concat (all_ended ls ++ ms) ≡ flat_map ended ls ++ concat ms
concat_ended [] ms = refl
concat_ended (l ∷ ls) ms = ap (λ r. ended l ++ r) (concat_ended ls ms) ∙ sym (append_assoc (ended l) (flat_map ended ls) (concat ms))

-- a text with that header and these lines behind it is the text of the annotation
pub header_spells : (text rest : List ℕ) (rounds : ℕ) (coarse : List ℕ) (w : Content) → HasHeader text rounds coarse rest → Completes no_content (lines_of rest) w → (text ≡ safe_text rounds coarse w) × (is_annotation w ≡ true)
header_spells text rest rounds coarse w h k =
    let s = completes_spells (lines_of rest) no_content w k in
    let body : rest ≡ body_text w = sym (lines_joined rest) ∙ s.text in
    let form = flat_map ended (form_lines coarse) in
    let third : concat (all_ended (form_lines coarse) ++ lines_of rest) ≡ form ++ rest = concat_ended (form_lines coarse) (lines_of rest) ∙ ap (λ r. form ++ r) (lines_joined rest) in
    let all : text ≡ ended (codes "safe") ++ (ended (rounds_line rounds) ++ (form ++ rest)) =
    sym (lines_joined text) ∙ ap concat h.lines ∙ ap (λ r. ended (codes "safe") ++ (ended (rounds_line rounds) ++ r)) third in
    (all ∙ ap (λ r. ended (codes "safe") ++ (ended (rounds_line rounds) ++ (form ++ r))) body, s.valid refl)

-- Two headers of one text

abbrev second_of : List (List ℕ) → List ℕ
second_of [] = []
second_of (a ∷ []) = []
second_of (a ∷ (b ∷ ls)) = b

abbrev behind_two : List (List ℕ) → List (List ℕ)
behind_two [] = []
behind_two (a ∷ []) = []
behind_two (a ∷ (b ∷ ls)) = ls

pub one_header : (text rest more : List ℕ) (m n : ℕ) (c d : List ℕ) → m < 2 ^ 64 → n < 2 ^ 64 → AreShort c → AreShort d → LacksCoarse (lines_of rest) → LacksCoarse (lines_of more)
    → HasHeader text m c rest → HasHeader text n d more → (m ≡ n) × (c ≡ d) × (lines_of rest ≡ lines_of more)
one_header text rest more m n c d small low short few last end h k =
    let same = sym h.lines ∙ k.lines in
    let second : ended (rounds_line m) ≡ ended (rounds_line n) = ap second_of same in
    let number : decimal m ≡ decimal n = append_cancel_left (codes "rounds ") (decimal m) (decimal n) (append_cancel_right (rounds_line m) (rounds_line n) (10 ∷ []) second) in
    let forms = same_form c d (lines_of rest) (lines_of more) short few last end (ap behind_two same) in
    (decimal_injective m n small low number, forms.0, forms.1)

-- no line of the text of an annotation is wrong
pub header_not_wrong : (body : List (List ℕ)) (rounds : ℕ) (coarse : List ℕ) (line : ℕ) (w : Content) → rounds < 2 ^ 64 → AreShort coarse → Completes no_content body w
    → FirstWrongOfText (with_header rounds coarse body) line → ⊥
header_not_wrong body rounds coarse line w small short k wrong = first wrong
  where
    second : WrongBehindSafe (ended (rounds_line rounds) ∷ (all_ended (form_lines coarse) ++ body)) line → ⊥
    second (inl e) = e.0 rounds small refl
    second (inr e) = form_not_wrong coarse body line w short k e.3

    first : FirstWrongOfText (with_header rounds coarse body) line → ⊥
    first (inl e) = e.0 refl
    first (inr e) = second e.1

pub spelled_not_wrong : (text rest : List ℕ) (rounds : ℕ) (coarse : List ℕ) (line : ℕ) (w : Content) → rounds < 2 ^ 64 → AreShort coarse → HasHeader text rounds coarse rest → Completes no_content (lines_of rest) w
    → FirstWrongOfText (lines_of text) line → ⊥
spelled_not_wrong text rest rounds coarse line w small short h k wrong =
    header_not_wrong (lines_of rest) rounds coarse line w small short k (subst (λ ls. FirstWrongOfText ls line) h.lines wrong)
