-- Parts that follow one another make one part.
use Rattle.std.proofs.Common.{◌≡◌, ℕ, Bool, true, false, not, ◌||◌, List, [], ◌∷◌, ◌++◌, map, Option, None, Some, refl, sym, ap, ◌∙◌, subst, append_assoc, arith}
use Rattle.std.specs.Prelude.{if◌then◌else◌}
use Rattle.std.proofs.lemmas.List.{map-append}
use Rattle.std.proofs.lemmas.List.Folds.{list_any-append}
use Rattle.std.proofs.lemmas.Bool.Decides.{nat_tests}
use Rattle.boogie_tree.specs.declared.span.Span.{Span}
use Rattle.boogie_tree.specs.Spans.{stands_before}
use Rattle.typed_tree.specs.TypedTree.{TypedProgram}
use Rattle.letter_acts.specs.declared.sites.Site.{Site}
use Rattle.cond_jumps.specs.Conjunctions.{is_wide, all_fit}
use Rattle.boogie_run.specs.BoogiePoints.Actions.{action_at}
use Rattle.boogie_run.specs.BoogiePlaces.Places.{Place}
use Rattle.letter_acts.specs.LetterTable.Letters.{Arc, Lettered, with_arc, with_arcs}
use Rattle.lowered_graph.specs.Arcs.{arcs_at, arcs_of}
use Rattle.lowered_graph.specs.Lowered.{action_sites, sites_of}
use Rattle.lowered_graph.specs.Items.{Needed, ProgramItem, ItemFault, fault_span, earlier, item_fault, first_of, items_at, items_of}
use Rattle.lowered_graph.specs.LoweredParts.Parts.{Walked, some_is_wide, some_is_big, IsTrouble, Leads, Adds}
use Rattle.lowered_graph.specs.LoweredParts.Making.{Makes}

-- ---- lists that follow one another

pub with_arcs-append : (d : Lettered) (xs ys : List Arc) → with_arcs d (xs ++ ys) ≡ with_arcs (with_arcs d xs) ys
with_arcs-append d [] ys = refl
with_arcs-append d (x ∷ xs) ys = with_arcs-append (with_arc d x) xs ys

pub arcs_of-append : (t : TypedProgram) (ps qs : List Place) → arcs_of t (ps ++ qs) ≡ arcs_of t ps ++ arcs_of t qs
arcs_of-append t [] qs = refl
arcs_of-append t (p ∷ ps) qs = ap (λ (xs : List Arc). arcs_at t p ++ xs) (arcs_of-append t ps qs) ∙ sym (append_assoc (arcs_at t p) (arcs_of t ps) (arcs_of t qs))

pub sites_of-append : (t : TypedProgram) (ps qs : List Place) → sites_of t (ps ++ qs) ≡ sites_of t ps ++ sites_of t qs
sites_of-append t [] qs = refl
sites_of-append t (p ∷ ps) qs =
    let here : List (ℕ × Site) = action_sites t p.proc (action_at t p.proc p.point) in
    ap (λ (xs : List (ℕ × Site)). here ++ xs) (sites_of-append t ps qs) ∙ sym (append_assoc here (sites_of t ps) (sites_of t qs))

pub items_of-append : (t : TypedProgram) (ps qs : List Place) → items_of t (ps ++ qs) ≡ items_of t ps ++ items_of t qs
items_of-append t [] qs = refl
items_of-append t (p ∷ ps) qs = ap (λ (xs : List ProgramItem). items_at t p ++ xs) (items_of-append t ps qs) ∙ sym (append_assoc (items_at t p) (items_of t ps) (items_of t qs))

-- ---- the earlier fault

before_trans : (a b c : Span) → stands_before c b ≡ true → stands_before b a ≡ true → stands_before c a ≡ true
before_trans a b c h k = grind (arith, nat_tests)

not_before_trans : (a b c : Span) → stands_before c b ≡ false → stands_before b a ≡ false → stands_before c a ≡ false
not_before_trans a b c h k = grind (arith, nat_tests)

earlier_by : (f g h : ItemFault) (x y z : Bool) → stands_before (fault_span g) (fault_span f) ≡ x → stands_before (fault_span h) (fault_span g) ≡ y → stands_before (fault_span h) (fault_span f) ≡ z →
    (x ≡ true → y ≡ true → z ≡ true) → (x ≡ false → y ≡ false → z ≡ false) →
    earlier (if x then Some g else Some f) (Some h) ≡ earlier (Some f) (if y then Some h else Some g)
earlier_by f g h true true z a b c hi lo =
    let w : stands_before (fault_span h) (fault_span f) ≡ true = c ∙ hi refl refl in
    rw (b, w) refl
earlier_by f g h true false z a b c hi lo = rw (b, a) refl
earlier_by f g h false true z a b c hi lo = refl
earlier_by f g h false false z a b c hi lo =
    let w : stands_before (fault_span h) (fault_span f) ≡ false = c ∙ lo refl refl in
    rw (w, a) refl

some_or : (x : Bool) (f g : ItemFault) → earlier (if x then Some g else Some f) None ≡ (if x then Some g else Some f)
some_or true f g = refl
some_or false f g = refl

pub earlier_assoc : (a b c : Option ItemFault) → earlier (earlier a b) c ≡ earlier a (earlier b c)
earlier_assoc None b c = refl
earlier_assoc (Some f) None c = refl
earlier_assoc (Some f) (Some g) None = some_or (stands_before (fault_span g) (fault_span f)) f g
earlier_assoc (Some f) (Some g) (Some h) =
    earlier_by f g h (stands_before (fault_span g) (fault_span f)) (stands_before (fault_span h) (fault_span g)) (stands_before (fault_span h) (fault_span f)) refl refl refl
    (λ x y. before_trans (fault_span f) (fault_span g) (fault_span h) y x)
    (λ x y. not_before_trans (fault_span f) (fault_span g) (fault_span h) y x)

pub earlier_none : (a : Option ItemFault) → earlier a None ≡ a
earlier_none None = refl
earlier_none (Some f) = refl

some_always : (x : Bool) (f g : ItemFault) → (if x then Some g else Some f) ≡ None → Some f ≡ None
some_always true f g e = cc
some_always false f g e = e

-- none where one of both is none
pub none_first : (a b : Option ItemFault) → earlier a b ≡ None → a ≡ None
none_first None b e = refl
none_first (Some f) None e = e
none_first (Some f) (Some g) e = some_always (stands_before (fault_span g) (fault_span f)) f g e

pub first_of-append : (xs ys : List ProgramItem) → first_of (xs ++ ys) ≡ earlier (first_of xs) (first_of ys)
first_of-append [] ys = refl
first_of-append (x ∷ xs) ys = ap (λ (f : Option ItemFault). earlier (item_fault x) f) (first_of-append xs ys) ∙ sym (earlier_assoc (item_fault x) (first_of xs) (first_of ys))

-- ---- places that follow one another

pub nothing : (w : Walked) → Adds [] w w
nothing w = record {
  program = refl;
  sites = sym (no_more w.sites);
  fault = sym (earlier_none w.fault);
  edges = λ e. refl;
}
  where
    no_more : {X : Type 0} (xs : List X) → xs ++ [] ≡ xs
    no_more [] = refl
    no_more (x ∷ xs) = ap (λ l. x ∷ l) (no_more xs)

joined_in : (t : TypedProgram) (ps qs : List Place) (old mid new : Walked) → old.program ≡ t → mid.program ≡ t →
    mid.sites ≡ old.sites ++ map (λ s. s.1) (sites_of t ps) → new.sites ≡ mid.sites ++ map (λ s. s.1) (sites_of t qs) →
    new.sites ≡ old.sites ++ map (λ s. s.1) (sites_of t (ps ++ qs))
joined_in t ps qs old mid new a b d e =
    let both : map (λ s. s.1) (sites_of t (ps ++ qs)) ≡ map (λ s. s.1) (sites_of t ps) ++ map (λ s. s.1) (sites_of t qs) =
    ap (map (λ s. s.1)) (sites_of-append t ps qs) ∙ map-append (λ s. s.1) (sites_of t ps) (sites_of t qs) in
    let out : (old.sites ++ map (λ s. s.1) (sites_of t ps)) ++ map (λ s. s.1) (sites_of t qs) ≡ old.sites ++ (map (λ s. s.1) (sites_of t ps) ++ map (λ s. s.1) (sites_of t qs)) =
    append_assoc old.sites (map (λ s. s.1) (sites_of t ps)) (map (λ s. s.1) (sites_of t qs)) in
    e ∙ ap (λ (xs : List Site). xs ++ map (λ s. s.1) (sites_of t qs)) d ∙ out ∙ ap (λ (xs : List Site). old.sites ++ xs) (sym both)

joined_fault : (t : TypedProgram) (ps qs : List Place) (f g h : Option ItemFault) → g ≡ earlier f (first_of (items_of t ps)) → h ≡ earlier g (first_of (items_of t qs)) →
    h ≡ earlier f (first_of (items_of t (ps ++ qs)))
joined_fault t ps qs f g h d e =
    let both : first_of (items_of t (ps ++ qs)) ≡ earlier (first_of (items_of t ps)) (first_of (items_of t qs)) =
    ap first_of (items_of-append t ps qs) ∙ first_of-append (items_of t ps) (items_of t qs) in
    e ∙ ap (λ (x : Option ItemFault). earlier x (first_of (items_of t qs))) d ∙ earlier_assoc f (first_of (items_of t ps)) (first_of (items_of t qs))
    ∙ ap (λ (x : Option ItemFault). earlier f x) (sym both)

joined_edges : (t : TypedProgram) (ps qs : List Place) (a b c : Lettered) → b ≡ with_arcs a (arcs_of t ps) → c ≡ with_arcs b (arcs_of t qs) → c ≡ with_arcs a (arcs_of t (ps ++ qs))
joined_edges t ps qs a b c d e =
    e ∙ ap (λ (x : Lettered). with_arcs x (arcs_of t qs)) d ∙ sym (with_arcs-append a (arcs_of t ps) (arcs_of t qs)) ∙ ap (λ (xs : List Arc). with_arcs a xs) (sym (arcs_of-append t ps qs))

-- Some places, and then others.
pub joined : (ps qs : List Place) (old mid new : Walked) → Adds ps old mid → Adds qs mid new → Adds (ps ++ qs) old new
joined ps qs old mid new h k =
    let more_sites : new.sites ≡ mid.sites ++ map (λ s. s.1) (sites_of old.program qs) = subst (λ (t : TypedProgram). new.sites ≡ mid.sites ++ map (λ s. s.1) (sites_of t qs)) h.program k.sites in
    let more_fault : new.fault ≡ earlier mid.fault (first_of (items_of old.program qs)) = subst (λ (t : TypedProgram). new.fault ≡ earlier mid.fault (first_of (items_of t qs))) h.program k.fault in
    record {
      program = k.program ∙ h.program;
      sites = joined_in old.program ps qs old mid new refl h.program h.sites more_sites;
      fault = joined_fault old.program ps qs old.fault mid.fault new.fault h.fault more_fault;
      edges = λ e.
          let none : mid.fault ≡ None = none_first mid.fault (first_of (items_of mid.program qs)) (sym k.fault ∙ e) in
          joined_edges old.program ps qs old.lettered mid.lettered new.lettered (h.edges none)
          (subst (λ (t : TypedProgram). new.lettered ≡ with_arcs mid.lettered (arcs_of t qs)) h.program (k.edges e));
    }

-- ---- edges of one item that follow one another

or_left : (a b : Bool) → (a || b) ≡ false → a ≡ false
or_left true b e = e
or_left false b e = refl

or_right : (a b : Bool) → (a || b) ≡ false → b ≡ false
or_right true b e = cc
or_right false b e = e

both_wide : (ns ms : List Needed) → some_is_wide (ns ++ ms) ≡ (some_is_wide ns || some_is_wide ms)
both_wide ns ms = list_any-append (λ n. is_wide n.plan n.base) ns ms

both_big : (ns ms : List Needed) → some_is_big (ns ++ ms) ≡ (some_is_big ns || some_is_big ms)
both_big ns ms = list_any-append (λ n. not (all_fit n.plan n.base)) ns ms

pub troubles : (ns ms : List Needed) (w b v c : Bool) → IsTrouble ns w b → IsTrouble ms v c → IsTrouble (ns ++ ms) (w || v) (b || c)
troubles ns ms w b v c h k = record {
  wide = ap (λ (x : Bool). x || v) h.wide ∙ ap (λ (x : Bool). some_is_wide ns || x) k.wide ∙ sym (both_wide ns ms);
  big = λ e.
      ap (λ (x : Bool). x || c) (h.big (or_left w v e)) ∙ ap (λ (x : Bool). some_is_big ns || x) (k.big (or_right w v e)) ∙ sym (both_big ns ms);
}

pub no_more : {X : Type 0} (xs : List X) → xs ++ [] ≡ xs
no_more [] = refl
no_more (x ∷ xs) = ap (λ l. x ∷ l) (no_more xs)

-- Some edges, and then others.
pub both_made : (ss rs : List Site) (xs ys : List Arc) (ns ms : List Needed) (w b v c : Bool) (old mid new : Walked) → Makes ss xs ns w b old mid → Makes rs ys ms v c mid new →
    Makes (ss ++ rs) (xs ++ ys) (ns ++ ms) (w || v) (b || c) old new
both_made ss rs xs ys ns ms w b v c old mid new h k = record {
  trouble = troubles ns ms w b v c h.trouble k.trouble;
  program = k.program ∙ h.program;
  sites = k.sites ∙ ap (λ (l : List Site). l ++ rs) h.sites ∙ append_assoc old.sites ss rs;
  fault = k.fault ∙ h.fault;
  edges = λ d e.
      k.edges (or_right w v d) (or_right b c e) ∙ ap (λ (l : Lettered). with_arcs l ys) (h.edges (or_left w v d) (or_left b c e)) ∙ sym (with_arcs-append old.lettered xs ys);
}

pub made : (xs : List Arc) (ns : List Needed) (w b : Bool) (old new : Walked) → Leads xs ns w b old new → Makes [] xs ns w b old new
made xs ns w b old new h = record {
  trouble = h.trouble;
  program = h.program;
  sites = h.sites ∙ sym (no_more old.sites);
  fault = h.fault;
  edges = h.edges;
}

pub led : (xs : List Arc) (ns : List Needed) (w b : Bool) (old new : Walked) → Makes [] xs ns w b old new → Leads xs ns w b old new
led xs ns w b old new h = record {
  trouble = h.trouble;
  program = h.program;
  sites = h.sites ∙ no_more old.sites;
  fault = h.fault;
  edges = h.edges;
}

pub both_lead : (xs ys : List Arc) (ns ms : List Needed) (w b v c : Bool) (old mid new : Walked) → Leads xs ns w b old mid → Leads ys ms v c mid new →
    Leads (xs ++ ys) (ns ++ ms) (w || v) (b || c) old new
both_lead xs ys ns ms w b v c old mid new h k =
    led (xs ++ ys) (ns ++ ms) (w || v) (b || c) old new (both_made [] [] xs ys ns ms w b v c old mid new (made xs ns w b old mid h) (made ys ms v c mid new k))
