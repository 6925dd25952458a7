-- Trees and their pieces: what is put together is spelled so, and each tree is put together from the pieces of its text.
use Rattle.std.proofs.Common.{◌≡◌, ℕ, zero, suc, ◌-◌, ◌^◌, ◌<◌, true, nat_lt, List, [], ◌∷◌, ◌++◌, length, take, drop, Option, Some, refl, sym, ap, ◌∙◌, subst, arith, append_assoc}
use Rattle.std.specs.List.{AllByRecursion, flat_map, concat}
use Rattle.std.proofs.lemmas.Bool.{eqb-true, leb-true, lt-ltb}
use Rattle.std.proofs.lemmas.List.{length-drop, take_all}
use Rattle.std.proofs.lemmas.Option.{cond_some, same_Some}
use Rattle.proof_form.specs.Outcomes.{◌>>=◌}
use Rattle.proof_form.specs.Trees.{tree_count, have_parts, is_tree, with_node, texts, tree_text}
use Rattle.proof_form.specs.TreeReading.{Part, opens, closes, part_text, Built, opened, with_node_of, with_part, built_on, whole, nodes_of}
use Rattle.proof_form.specs.Ties.TreeWriting.{total, closing}
use Rattle.proof_form.proofs.AfterLaws.{bind_some}
use Rattle.proof_form.proofs.RunLaws.{both_hold}

-- a tree in front
closing_tree : (d : ℕ) (cs : List ℕ) (t : List ℕ) (ts : List (List ℕ)) → closing (suc d ∷ cs) (t ∷ ts) ≡ t ++ closing (d ∷ cs) ts
closing_tree d [] t ts = refl
closing_tree d (e ∷ cs) t ts = append_assoc t (concat (take d ts)) (41 ∷ closing (e ∷ cs) (drop d ts))

module _ {X : Type 0} (head : X → List ℕ) (parts : X → ℕ) where
  -- a node in front
  pub closing_node : (n : X) (d : ℕ) (cs : List ℕ) (ts : List (List ℕ)) → closing (suc d ∷ cs) (with_node head parts n ts) ≡ head n ++ closing (parts n ∷ (d ∷ cs)) ts
  closing_node n d cs ts =
      let inner = concat (take (parts n) ts) in
      let more = closing (d ∷ cs) (drop (parts n) ts) in
      closing_tree d cs (head n ++ (inner ++ 41 ∷ [])) (drop (parts n) ts) ∙ append_assoc (head n) (inner ++ 41 ∷ []) more ∙ ap (λ r. head n ++ r) (append_assoc inner (41 ∷ []) more)

  pub texts_counted : (ns : List X) → length (texts head parts ns) ≡ tree_count parts ns
  texts_counted [] = refl
  texts_counted (n ∷ ns) = ap (λ k. suc k) (length-drop (parts n) (texts head parts ns) ∙ ap (λ k. k - parts n) (texts_counted ns))

  -- Soundness

  -- The counts are of the trees that the nodes are, and the pieces are spelled as these.
  pub record Spells (ps : List (Part X)) (b : Built X) : Type 0 where
    pub counted : total b.0 ≡ length (texts head parts b.1)
    pub spelled : flat_map (part_text head) ps ≡ closing b.0 (texts head parts b.1)
    pub begun : 0 < length b.0

  abbrev Sets : (X → ℕ → Option X) → Type 0
  Sets set = (n m : X) (c : ℕ) → set n c ≡ Some m → (head m ≡ head n) × (parts m ≡ c)

  closed_spells : (ps : List (Part X)) (b : Built X) → Spells ps b → Spells (closes ∷ ps) (0 ∷ b.0, b.1)
  closed_spells ps b h = go b.0 b.1 h.counted h.spelled h.begun
    where
      go : (cs : List ℕ) (ns : List X) → total cs ≡ length (texts head parts ns) → flat_map (part_text head) ps ≡ closing cs (texts head parts ns) → 0 < length cs → Spells (closes ∷ ps) (0 ∷ cs, ns)
      go [] ns e s o = absurd (omega arith)
      go (c ∷ cs) ns e s o = record { counted = omega arith; spelled = ap (λ r. 41 ∷ r) s; begun = omega arith }

  opened_spells : (set : X → ℕ → Option X) → Sets set → (ps : List (Part X)) (n m : X) (c d : ℕ) (cs : List ℕ) (ns : List X) → Spells ps (c ∷ (d ∷ cs), ns) → set n c ≡ Some m → Spells (opens n ∷ ps) (suc d ∷ cs, m ∷ ns)
  opened_spells set sets ps n m c d cs ns h e =
      let s = sets n m c e in
      let count : total (c ∷ (d ∷ cs)) ≡ length (texts head parts ns) = h.counted in
      let dropped = length-drop (parts m) (texts head parts ns) in
      record {
        counted = omega (arith, s.1);
        spelled = ap (λ r. head n ++ r) h.spelled ∙ ap (λ r. r ++ closing (c ∷ (d ∷ cs)) (texts head parts ns)) (sym s.0) ∙ ap (λ (k : ℕ). head m ++ closing (k ∷ (d ∷ cs)) (texts head parts ns)) (sym s.1) ∙ sym (closing_node m d cs (texts head parts ns));
        begun = omega arith;
      }

  open_spells : (set : X → ℕ → Option X) → Sets set → (ps : List (Part X)) (n : X) (cs : List ℕ) (ns : List X) (x : ℕ × List ℕ) (b : Built X) → Spells ps (cs, ns) → opened cs ≡ Some x → with_node_of set n ns x ≡ Some b → Spells (opens n ∷ ps) b
  open_spells set sets ps n [] ns x b h e f = absurd (let no : ⊥ = cc in no)
  open_spells set sets ps n (c ∷ []) ns x b h e f = absurd (let no : ⊥ = cc in no)
  open_spells set sets ps n (c ∷ (d ∷ cs)) ns x b h e f =
      let p = cond_some (nat_lt (suc d) (2 ^ 32)) (c, suc d ∷ cs) x e in
      let g : with_node_of set n ns (c, suc d ∷ cs) ≡ Some b = ap (with_node_of set n ns) p.1 ∙ f in
      let m = bind_some (set n c) (λ m. Some (suc d ∷ cs, m ∷ ns)) b g in
      subst (λ (y : Built X). Spells (opens n ∷ ps) y) (same_Some (suc d ∷ cs, m.0 ∷ ns) b m.2) (opened_spells set sets ps n m.0 c d cs ns h m.1)

  part_spells : (set : X → ℕ → Option X) → Sets set → (ps : List (Part X)) (p : Part X) (a b : Built X) → Spells ps a → with_part set p a ≡ Some b → Spells (p ∷ ps) b
  part_spells set sets ps (opens n) a b h e = let s = bind_some (opened a.0) (with_node_of set n a.1) b e in open_spells set sets ps n a.0 a.1 s.0 b h s.1 s.2
  part_spells set sets ps closes a b h e = subst (λ (x : Built X). Spells (closes ∷ ps) x) (same_Some (0 ∷ a.0, a.1) b e) (closed_spells ps a h)

  built_spells : (set : X → ℕ → Option X) → Sets set → (ps : List (Part X)) (b : Built X) → built_on set (Some (0 ∷ [], [])) ps ≡ Some b → Spells ps b
  built_spells set sets [] b e =
      let none : Spells [] (0 ∷ [], []) = record { counted = refl; spelled = refl; begun = omega arith } in
      subst (λ (x : Built X). Spells [] x) (same_Some (0 ∷ [], []) b e) none
  built_spells set sets (p ∷ ps) b e =
      let s = bind_some (built_on set (Some (0 ∷ [], [])) ps) (with_part set p) b e in
      part_spells set sets ps p s.0 b (built_spells set sets ps s.0 s.1) s.2

  whole_spells : (ps : List (Part X)) (cs : List ℕ) (ns ms : List X) → Spells ps (cs, ns) → whole cs ns ≡ Some ms → flat_map (part_text head) ps ≡ tree_text head parts ms
  whole_spells ps [] ns ms h e = absurd (let no : ⊥ = cc in no)
  whole_spells ps (c ∷ []) ns ms h e =
      let all : take c (texts head parts ns) ≡ texts head parts ns = take_all c (texts head parts ns) (let k : total (c ∷ []) ≡ length (texts head parts ns) = h.counted in omega arith) in
      h.spelled ∙ ap (λ (ts : List (List ℕ)). concat ts) all ∙ ap (tree_text head parts) (same_Some ns ms e)
  whole_spells ps (c ∷ (d ∷ cs)) ns ms h e = absurd (let no : ⊥ = cc in no)

  -- what the pieces make is spelled as they are
  pub nodes_spell : (set : X → ℕ → Option X) → Sets set → (ps : List (Part X)) (ns : List X) → nodes_of set ps ≡ Some ns → flat_map (part_text head) ps ≡ tree_text head parts ns
  unfolding nodes_of
  nodes_spell set sets ps ns e =
      let s = bind_some (built_on set (Some (0 ∷ [], [])) ps) (λ b. whole b.0 b.1) ns e in
      whole_spells ps s.0.0 s.0.1 ns (built_spells set sets ps s.0 s.1) s.2

  -- Completeness

  abbrev pub PartIs : (X → Type 0) → Part X → Type 0
  PartIs Opens (opens n) = Opens n
  PartIs Opens closes = Unit {0}

  -- Pieces that are spelled as the trees for these counts, and make these nodes.
  pub record Makes (Opens : X → Type 0) (set : X → ℕ → Option X) (cs : List ℕ) (ns : List X) : Type 0 where
    pub pieces : List (Part X)
    pub are : AllByRecursion (PartIs Opens) pieces
    pub spelled : flat_map (part_text head) pieces ≡ closing cs (texts head parts ns)
    pub made : built_on set (Some (0 ∷ [], [])) pieces ≡ Some (cs, ns)

  -- A node as it is opened, before its parts are counted.
  pub record OpensAs (Opens : X → Type 0) (set : X → ℕ → Option X) (n : X) : Type 0 where
    pub bare : X
    pub is : Opens bare
    pub counted : set bare (parts n) ≡ Some n
    pub head_is : head bare ≡ head n
    pub small : parts n < 2 ^ 32

  closes_make : (Opens : X → Type 0) (set : X → ℕ → Option X) (d : ℕ) (cs : List ℕ) (ns : List X) → Makes Opens set (d ∷ cs) ns → Makes Opens set (0 ∷ (d ∷ cs)) ns
  closes_make Opens set d cs ns h = record { pieces = closes ∷ h.pieces; are = (tt, h.are); spelled = ap (λ r. 41 ∷ r) h.spelled; made = ap (λ b. b >>= with_part set closes) h.made }

  opens_make : (Opens : X → Type 0) (set : X → ℕ → Option X) (n : X) (d : ℕ) (cs : List ℕ) (ns : List X) → OpensAs Opens set n → suc d < 2 ^ 32 → Makes Opens set (parts n ∷ (d ∷ cs)) ns → Makes Opens set (suc d ∷ cs) (n ∷ ns)
  opens_make Opens set n d cs ns o small h = record {
    pieces = opens o.bare ∷ h.pieces;
    are = (o.is, h.are);
    spelled = ap (λ r. head o.bare ++ r) h.spelled ∙ ap (λ r. r ++ closing (parts n ∷ (d ∷ cs)) (texts head parts ns)) o.head_is ∙ sym (closing_node n d cs (texts head parts ns));
    made = ap (λ b. b >>= with_part set (opens o.bare)) h.made ∙ rw (lt-ltb (suc d) (2 ^ 32) small, o.counted) refl;
  }

  abbrev AreSmall : List ℕ → Type 0
  AreSmall cs = AllByRecursion (λ c. c < 2 ^ 32) cs

  all_counts : (Opens : X → Type 0) (set : X → ℕ → Option X) (ns : List X) → (tree_count parts ns ≡ 0 → Makes Opens set (0 ∷ []) ns)
      → ((d : ℕ) (cs : List ℕ) → AreSmall (suc d ∷ cs) → total (suc d ∷ cs) ≡ tree_count parts ns → Makes Opens set (suc d ∷ cs) ns)
      → (cs : List ℕ) → AreSmall cs → 0 < length cs → total cs ≡ tree_count parts ns → Makes Opens set cs ns
  all_counts Opens set ns base step [] small l e = absurd (omega arith)
  all_counts Opens set ns base step (zero ∷ []) small l e = base (omega arith)
  all_counts Opens set ns base step (zero ∷ (d ∷ cs)) small l e = closes_make Opens set d cs ns (all_counts Opens set ns base step (d ∷ cs) small.1 (omega arith) (omega arith))
  all_counts Opens set ns base step (suc d ∷ cs) small l e = step d cs small e

  makes : (Opens : X → Type 0) (set : X → ℕ → Option X) (ns : List X) → AllByRecursion (OpensAs Opens set) ns → have_parts parts ns ≡ true
      → (cs : List ℕ) → AreSmall cs → 0 < length cs → total cs ≡ tree_count parts ns → Makes Opens set cs ns
  makes Opens set [] os h = all_counts Opens set [] (λ e. record { pieces = []; are = tt; spelled = refl; made = refl }) (λ d cs small e. absurd (omega arith))
  makes Opens set (n ∷ ns) os h =
      let k = both_hold (have_parts parts ns) _ h in
      let fits = leb-true (parts n) (tree_count parts ns) k.1 in
      let more = makes Opens set ns os.1 k.0 in
      all_counts Opens set (n ∷ ns) (λ e. absurd (omega arith))
      (λ d cs small e. let s = small.0 in let t = os.0.small in opens_make Opens set n d cs ns os.0 small.0 (more (parts n ∷ (d ∷ cs)) (t, (omega arith, small.1)) (omega arith) (omega arith)))

  -- a tree is made of the pieces of its text
  pub record Whole (Opens : X → Type 0) (set : X → ℕ → Option X) (ns : List X) : Type 0 where
    pub pieces : List (Part X)
    pub are : AllByRecursion (PartIs Opens) pieces
    pub spelled : flat_map (part_text head) pieces ≡ tree_text head parts ns
    pub made : nodes_of set pieces ≡ Some ns

  pub tree_is_made : (Opens : X → Type 0) (set : X → ℕ → Option X) (ns : List X) → AllByRecursion (OpensAs Opens set) ns → is_tree parts ns ≡ true → Whole Opens set ns
  unfolding nodes_of
  tree_is_made Opens set ns os h =
      let k = both_hold (have_parts parts ns) _ h in
      let one = eqb-true (tree_count parts ns) 1 k.1 in
      let m = makes Opens set ns os k.0 (1 ∷ []) (omega arith, tt) (omega arith) (omega arith) in
      let all : take 1 (texts head parts ns) ≡ texts head parts ns = take_all 1 (texts head parts ns) (omega (arith, texts_counted ns)) in
      record { pieces = m.pieces; are = m.are; spelled = m.spelled ∙ ap (λ (ts : List (List ℕ)). concat ts) all; made = ap (λ b. b >>= λ b. whole b.0 b.1) m.made }
