-- Whole texts: the lines complete an annotation exactly where the text spells it, and then no line is wrong.
use Rattle.std.proofs.Common.{◌≡◌, ℕ, suc, ◌+◌, Bool, true, List, [], ◌∷◌, ◌++◌, length, map, Some, inl, inr, refl, sym, ap, ◌∙◌, subst, arith, append_assoc}
use Rattle.std.specs.List.{concat, flat_map, list_all}
use Rattle.std.proofs.lemmas.List.{append-nil, map-append}
use Rattle.std.proofs.lemmas.Option.{same_Some}
use Rattle.proof_form.specs.declared.lines.StepLine.{StepLine}
use Rattle.proof_form.specs.Lines.{Pred, Triple, Node, pred_text, triple_text, node_text, step_text, is_pred, is_triple, is_node, is_step}
use Rattle.proof_form.specs.Annotations.{Content, is_annotation, numbered, item_lines, ended}
use Rattle.proof_form.specs.Standing.{Item, pred_item, triple_item, node_item, step_item, is_item, item_text, with_item, end_line, Completes, FirstWrong}
use Rattle.proof_form.proofs.RunLaws.{both_hold}
use Rattle.proof_form.proofs.StandingSteps.{adds_once, adds_no_end}

abbrev contents : List Pred → List Triple → List Node → List StepLine → Content
contents ps ts ns ss = record { preds = ps; triples = ts; nodes = ns; steps = ss }

-- One answer

-- the whole is one
pub completes_once : (ls : List (List ℕ)) (a v w : Content) → Completes a ls v → Completes a ls w → v ≡ w
completes_once [] a v w h k = absurd h
completes_once (l ∷ ls) a v w (inl h) (inl k) = sym h.2 ∙ k.2
completes_once (l ∷ ls) a v w (inl h) (inr k) = absurd (adds_no_end a k.0 l k.1 h.0)
completes_once (l ∷ ls) a v w (inr h) (inl k) = absurd (adds_no_end a h.0 l h.1 k.0)
completes_once (l ∷ ls) a v w (inr h) (inr k) = completes_once ls h.0 v w h.2 (subst (λ (c : Content). Completes c ls w) (adds_once a k.0 h.0 l k.1 h.1) k.2)

-- no line is wrong
pub completes_not_wrong : (ls : List (List ℕ)) (n line : ℕ) (a w : Content) → Completes a ls w → FirstWrong n a ls line → ⊥
completes_not_wrong [] n line a w h k = h
completes_not_wrong (l ∷ ls) n line a w (inl h) (inl k) = k.1 h.1
completes_not_wrong (l ∷ ls) n line a w (inl h) (inr (inl k)) = k.0 h.0
completes_not_wrong (l ∷ ls) n line a w (inl h) (inr (inr k)) = adds_no_end a k.0 l k.1 h.0
completes_not_wrong (l ∷ ls) n line a w (inr h) (inl k) = adds_no_end a h.0 l h.1 k.0
completes_not_wrong (l ∷ ls) n line a w (inr h) (inr (inl k)) = k.1 h.0 h.1
completes_not_wrong (l ∷ ls) n line a w (inr h) (inr (inr k)) = completes_not_wrong ls (n + 1) line h.0 w h.2 (subst (λ (c : Content). FirstWrong (n + 1) c ls line) (adds_once a k.0 h.0 l k.1 h.1) k.2)

-- What is completed is spelled so

module _ {A : Type 0} (text : ℕ → A → List ℕ) where
  numbered_more : (n : ℕ) (xs : List A) (x : A) → numbered text n (xs ++ x ∷ []) ≡ numbered text n xs ++ text (length xs + n) x ∷ []
  numbered_more n [] x = ap (λ (k : ℕ). text k x ∷ []) (let e : n ≡ 0 + n = omega arith in e)
  numbered_more n (y ∷ xs) x =
      let e : length xs + suc n ≡ suc (length xs) + n = omega arith in
      ap (λ r. text n y ∷ r) (numbered_more (suc n) xs x ∙ ap (λ (k : ℕ). numbered text (suc n) xs ++ text k x ∷ []) e)

all_more : {A : Type 0} (test : A → Bool) (xs : List A) (x : A) → list_all test xs ≡ true → test x ≡ true → list_all test (xs ++ x ∷ []) ≡ true
all_more test [] x h k = rw k refl
all_more test (y ∷ xs) x h k = let j = both_hold (test y) _ h in rw (j.0, all_more test xs x j.1 k) refl

-- with one more line there is that line more, and all are in the grammar
pub record More (a : Content) (x : Item) (b : Content) : Type 0 where
  pub lines : item_lines b ≡ item_lines a ++ item_text a x ∷ []
  pub valid : is_annotation a ≡ true → is_annotation b ≡ true

abbrev steps_lines : List StepLine → List (List ℕ)
steps_lines ss = map step_text ss

pred_more : (ps : List Pred) (ts : List Triple) (ns : List Node) (ss : List StepLine) (p : Pred) (b : Content) → is_pred p ≡ true → with_item (contents ps ts ns ss) (pred_item p) ≡ Some b → More (contents ps ts ns ss) (pred_item p) b
pred_more ps (t ∷ ts) ns ss p b v h = absurd (let no : ⊥ = cc in no)
pred_more ps [] (n ∷ ns) ss p b v h = absurd (let no : ⊥ = cc in no)
pred_more ps [] [] (s ∷ ss) p b v h = absurd (let no : ⊥ = cc in no)
pred_more ps [] [] [] p b v h =
    let made : More (contents ps [] [] []) (pred_item p) (contents (ps ++ p ∷ []) [] [] []) = record {
      lines = append-nil (numbered pred_text 2 (ps ++ p ∷ [])) ∙ numbered_more pred_text 2 ps p ∙ ap (λ ls. ls ++ pred_text (length ps + 2) p ∷ []) (sym (append-nil (numbered pred_text 2 ps)));
      valid = λ k. let j = both_hold (list_all is_pred ps) _ k in rw (all_more is_pred ps p j.0 v) refl;
    } in subst (λ (c : Content). More (contents ps [] [] []) (pred_item p) c) (same_Some (contents (ps ++ p ∷ []) [] [] []) b h) made

triple_more : (ps : List Pred) (ts : List Triple) (ns : List Node) (ss : List StepLine) (t : Triple) (b : Content) → is_triple t ≡ true → with_item (contents ps ts ns ss) (triple_item t) ≡ Some b → More (contents ps ts ns ss) (triple_item t) b
triple_more ps ts (n ∷ ns) ss t b v h = absurd (let no : ⊥ = cc in no)
triple_more ps ts [] (s ∷ ss) t b v h = absurd (let no : ⊥ = cc in no)
triple_more ps ts [] [] t b v h =
    let first = numbered pred_text 2 ps in
    let made : More (contents ps ts [] []) (triple_item t) (contents ps (ts ++ t ∷ []) [] []) = record {
      lines = ap (λ ls. first ++ ls) (append-nil (map triple_text (ts ++ t ∷ [])) ∙ map-append triple_text ts (t ∷ [])) ∙ sym (append_assoc first (map triple_text ts) (triple_text t ∷ []))
          ∙ ap (λ ls. (first ++ ls) ++ triple_text t ∷ []) (sym (append-nil (map triple_text ts)));
      valid = λ k. let j = both_hold (list_all is_pred ps) _ k in let i = both_hold (list_all is_triple ts) _ j.1 in rw (j.0, all_more is_triple ts t i.0 v) refl;
    } in subst (λ (c : Content). More (contents ps ts [] []) (triple_item t) c) (same_Some (contents ps (ts ++ t ∷ []) [] []) b h) made

node_more : (ps : List Pred) (ts : List Triple) (ns : List Node) (ss : List StepLine) (x : Node) (b : Content) → is_node x ≡ true → with_item (contents ps ts ns ss) (node_item x) ≡ Some b → More (contents ps ts ns ss) (node_item x) b
node_more ps ts ns (s ∷ ss) x b v h = absurd (let no : ⊥ = cc in no)
node_more ps ts ns [] x b v h =
    let first = numbered pred_text 2 ps in
    let second = map triple_text ts in
    let third = numbered node_text 0 ns in
    let number : length ns + 0 ≡ length ns = omega arith in
    let more : numbered node_text 0 (ns ++ x ∷ []) ≡ third ++ node_text (length ns) x ∷ [] = numbered_more node_text 0 ns x ∙ ap (λ (k : ℕ). third ++ node_text k x ∷ []) number in
    let made : More (contents ps ts ns []) (node_item x) (contents ps ts (ns ++ x ∷ []) []) = record {
      lines = ap (λ ls. first ++ (second ++ ls)) (append-nil (numbered node_text 0 (ns ++ x ∷ [])) ∙ more)
          ∙ ap (λ ls. first ++ ls) (sym (append_assoc second third (node_text (length ns) x ∷ []))) ∙ sym (append_assoc first (second ++ third) (node_text (length ns) x ∷ []))
          ∙ ap (λ ls. (first ++ (second ++ ls)) ++ node_text (length ns) x ∷ []) (sym (append-nil third));
      valid = λ k. let j = both_hold (list_all is_pred ps) _ k in let i = both_hold (list_all is_triple ts) _ j.1 in let g = both_hold (list_all is_node ns) _ i.1 in rw (j.0, i.0, all_more is_node ns x g.0 v) refl;
    } in subst (λ (c : Content). More (contents ps ts ns []) (node_item x) c) (same_Some (contents ps ts (ns ++ x ∷ []) []) b h) made

step_more : (ps : List Pred) (ts : List Triple) (ns : List Node) (ss : List StepLine) (s : StepLine) (b : Content) → is_step s ≡ true → with_item (contents ps ts ns ss) (step_item s) ≡ Some b → More (contents ps ts ns ss) (step_item s) b
step_more ps ts ns ss s b v h =
    let first = numbered pred_text 2 ps in
    let second = map triple_text ts in
    let third = numbered node_text 0 ns in
    let fourth = map step_text ss in
    let last = step_text s ∷ [] in
    let made : More (contents ps ts ns ss) (step_item s) (contents ps ts ns (ss ++ s ∷ [])) = record {
      lines = ap (λ ls. first ++ (second ++ (third ++ ls))) (map-append step_text ss (s ∷ []))
          ∙ ap (λ ls. first ++ (second ++ ls)) (sym (append_assoc third fourth last)) ∙ ap (λ ls. first ++ ls) (sym (append_assoc second (third ++ fourth) last))
          ∙ sym (append_assoc first (second ++ (third ++ fourth)) last);
      valid = λ k. let j = both_hold (list_all is_pred ps) _ k in let i = both_hold (list_all is_triple ts) _ j.1 in let g = both_hold (list_all is_node ns) _ i.1 in rw (j.0, i.0, g.0, all_more is_step ss s g.1 v) refl;
    } in subst (λ (c : Content). More (contents ps ts ns ss) (step_item s) c) (same_Some (contents ps ts ns (ss ++ s ∷ [])) b h) made

pub item_more : (a b : Content) (x : Item) → is_item x ≡ true → with_item a x ≡ Some b → More a x b
item_more a b (pred_item p) v h = pred_more a.preds a.triples a.nodes a.steps p b v h
item_more a b (triple_item t) v h = triple_more a.preds a.triples a.nodes a.steps t b v h
item_more a b (node_item x) v h = node_more a.preds a.triples a.nodes a.steps x b v h
item_more a b (step_item s) v h = step_more a.preds a.triples a.nodes a.steps s b v h

flat_more : (ls : List (List ℕ)) (l : List ℕ) → flat_map ended (ls ++ l ∷ []) ≡ flat_map ended ls ++ ended l
flat_more [] l = append-nil (ended l)
flat_more (k ∷ ls) l = ap (λ r. ended k ++ r) (flat_more ls l) ∙ sym (append_assoc (ended k) (flat_map ended ls) (ended l))

-- the lines before and the lines behind are those of the whole
pub record Spelled (a : Content) (ls : List (List ℕ)) (whole : Content) : Type 0 where
  pub text : flat_map ended (item_lines a) ++ concat ls ≡ flat_map ended (item_lines whole) ++ end_line
  pub valid : is_annotation a ≡ true → is_annotation whole ≡ true

pub completes_spells : (ls : List (List ℕ)) (a w : Content) → Completes a ls w → Spelled a ls w
completes_spells [] a w h = absurd h
completes_spells (l ∷ ls) a w (inl h) =
    let last : concat (l ∷ ls) ≡ end_line = ap (λ m. m ++ concat ls) h.0 ∙ ap (λ ms. end_line ++ concat ms) h.1 in
    record { text = ap (λ r. flat_map ended (item_lines a) ++ r) last ∙ ap (λ (c : Content). flat_map ended (item_lines c) ++ end_line) h.2; valid = λ v. ap is_annotation (sym h.2) ∙ v }
completes_spells (l ∷ ls) a w (inr h) =
    let more = item_more a h.0 h.1.item h.1.is h.1.added in
    let rest = completes_spells ls h.0 w h.2 in
    let before : flat_map ended (item_lines h.0) ≡ flat_map ended (item_lines a) ++ l =
    ap (flat_map ended) more.lines ∙ flat_more (item_lines a) (item_text a h.1.item) ∙ ap (λ m. flat_map ended (item_lines a) ++ m) (sym h.1.spelled) in
    record {
      text = sym (append_assoc (flat_map ended (item_lines a)) l (concat ls)) ∙ ap (λ t. t ++ concat ls) (sym before) ∙ rest.text;
      valid = λ v. rest.valid (more.valid v);
    }
