-- A tree is read as a flat list of pieces, and its nodes are put together from the last piece to the first.
use Rattle.std.specs.Prelude.{ℕ, suc, ◌^◌, nat_lt, List, [], ◌∷◌, Option, None, Some, if◌then◌else◌}
use Rattle.proof_form.specs.Outcomes.{◌>>=◌}

-- a node without its parts, or a closing parenthesis
pub data Part (X : Type 0) : Type 0 where
  opens : X → Part X
  closes : Part X

abbrev pub part_text : {X : Type 0} → (X → List ℕ) → Part X → List ℕ
part_text head (opens n) = head n
part_text head closes = 41 ∷ []

-- How many parts are known of each node that is still to open, the innermost first, and last of all how many whole trees; and
-- the nodes that were put together.
abbrev pub Built : Type 0 → Type 0
Built X = List ℕ × List X

-- how many parts the innermost open node has, and the counts where it is one more part of the next one, if that can be counted
abbrev pub opened : List ℕ → Option (ℕ × List ℕ)
opened [] = None
opened (c ∷ []) = None
opened (c ∷ (d ∷ cs)) = if nat_lt (suc d) (2 ^ 32) then Some (c, suc d ∷ cs) else None

-- a node with so many parts in front
abbrev pub with_node_of : {X : Type 0} → (X → ℕ → Option X) → X → List X → ℕ × List ℕ → Option (Built X)
with_node_of set n ns x = set n x.0 >>= λ m. Some (x.1, m ∷ ns)

abbrev pub with_part : {X : Type 0} → (X → ℕ → Option X) → Part X → Built X → Option (Built X)
with_part set (opens n) b = opened b.0 >>= with_node_of set n b.1
with_part set closes b = Some (0 ∷ b.0, b.1)

-- the nodes that all these pieces make, in front of what was put together
abbrev pub built_on : {X : Type 0} → (X → ℕ → Option X) → Option (Built X) → List (Part X) → Option (Built X)
built_on set b [] = b
built_on set b (p ∷ ps) = built_on set b ps >>= with_part set p

-- no node is open
abbrev pub whole : {X : Type 0} → List ℕ → List X → Option (List X)
whole [] ns = None
whole (c ∷ []) ns = Some ns
whole (c ∷ (d ∷ cs)) ns = None

-- the nodes of the trees whose pieces these are
unfoldable pub nodes_of : {X : Type 0} → (X → ℕ → Option X) → List (Part X) → Option (List X)
nodes_of set ps = built_on set (Some (0 ∷ [], [])) ps >>= λ b. whole b.0 b.1
