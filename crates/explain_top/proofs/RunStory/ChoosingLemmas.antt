-- What is told of a step, by what is chosen.
use Rattle.std.proofs.Common.{◌≡◌, ◌<◌, ◌≤◌, ℕ, ℤ, true, false, nat_lt, List, [], ◌∷◌, length, slice_get, Option, None, arith, refl, ap, sym, ◌∙◌, subst}
use Rattle.std.proofs.lemmas.Bool.Decides.{nat_tests}
use Rattle.boogie_tree.specs.declared.tree.Column.TheVariants as columns
use Rattle.boogie_tree.specs.Tree.{Declaration}
use Rattle.typed_tree.specs.TypedTree.{TypedProgram}
use Rattle.boogie_run.specs.BoogiePoints.Actions.{action_at}
use Rattle.boogie_run.specs.BoogiePoints.Sites.{span_at}
use Rattle.boogie_run.specs.BoogiePoints.Told.{told}
use Rattle.boogie_run.specs.Configurations.{Config}
use Rattle.boogie_run.specs.Needs.{locals_at}
use Rattle.boogie_run.specs.Fitting.{NextFits}
use Rattle.boogie_run.specs.ToldActs.{ToldFits}
use Rattle.boogie_run.proofs.ToldLemmas.{fits_told}
use Rattle.explain_top.specs.RunStory.Items.{Item, Heading, headings}
use Rattle.explain_top.specs.RunStory.Sites.{site, local_site, return_site, site_at}
use Rattle.explain_top.specs.RunStory.Notes.{note, notes_before, read_by}

below : (a b : ℕ) → a < b → nat_lt a b ≡ true
below a b h = grind (arith, nat_tests)

not_below : (a b : ℕ) → b ≤ a → nat_lt a b ≡ false
not_below a b h = grind (arith, nat_tests)

module _ (t : TypedProgram) (ds : List Declaration) (c : Config) where
  pub site_local : length t.globals ≤ length c.globals → length c.top.locals < length (locals_at t c.top.proc) → site t ds c ≡ local_site (slice_get (headings ds) c.top.proc) (length c.top.locals)
  site_local g h = rw (not_below (length c.globals) (length t.globals) g, below (length c.top.locals) (length (locals_at t c.top.proc)) h) refl

  pub site_action : length t.globals ≤ length c.globals → length (locals_at t c.top.proc) ≤ length c.top.locals → site t ds c ≡ site_at ds c.top.proc (span_at t c.top.proc c.top.point)
  site_action g h = rw (not_below (length c.globals) (length t.globals) g, not_below (length c.top.locals) (length (locals_at t c.top.proc)) h) refl

module _ (t : TypedProgram) (ds : List Declaration) (i : Item) (c : Config) (v : ℤ) where
  pub notes_global : length c.globals < length t.globals → notes_before t ds i c v ≡ note t c.top.proc (columns.Global (length c.globals)) v ∷ []
  notes_global g = rw (below (length c.globals) (length t.globals) g) refl

  pub notes_local : length t.globals ≤ length c.globals → length c.top.locals < length (locals_at t c.top.proc) → notes_before t ds i c v ≡ note t c.top.proc (columns.Local (length c.top.locals)) v ∷ []
  notes_local g h = rw (not_below (length c.globals) (length t.globals) g, below (length c.top.locals) (length (locals_at t c.top.proc)) h) refl

  pub notes_action : length t.globals ≤ length c.globals → length (locals_at t c.top.proc) ≤ length c.top.locals → notes_before t ds i c v ≡ read_by t ds i c v (told (action_at t c.top.proc c.top.point))
  notes_action g h = rw (not_below (length c.globals) (length t.globals) g, not_below (length c.top.locals) (length (locals_at t c.top.proc)) h) refl

next_fits_action : (t : TypedProgram) (c : Config) → length t.globals ≤ length c.globals → length (locals_at t c.top.proc) ≤ length c.top.locals →
    NextFits t c ≡ ToldFits t c (told (action_at t c.top.proc c.top.point))
next_fits_action t c g h =
    rw (not_below (length c.globals) (length t.globals) g, not_below (length c.top.locals) (length (locals_at t c.top.proc)) h)
    (fits_told t c (action_at t c.top.proc c.top.point))

pub action_fits : (t : TypedProgram) (c : Config) → length t.globals ≤ length c.globals → length (locals_at t c.top.proc) ≤ length c.top.locals →
    NextFits t c → ToldFits t c (told (action_at t c.top.proc c.top.point))
action_fits t c g h fits = subst (λ (P : Type 0). P) (next_fits_action t c g h) fits

-- the item of a local that is chosen, found by the procedure's heading
pub local_here : (t : TypedProgram) (ds : List Declaration) (c : Config) (n p : ℕ) (h : Option Heading) (i : Item) → length t.globals ≤ length c.globals → length c.top.locals < length (locals_at t c.top.proc) →
    i ≡ local_site h n → h ≡ slice_get (headings ds) p → p ≡ c.top.proc → n ≡ length c.top.locals → i ≡ site t ds c
local_here t ds c n p h i g l is head proc count =
    is ∙ (λ k. local_site (head k) (count k)) ∙ ap (λ (q : ℕ). local_site (slice_get (headings ds) q) (length c.top.locals)) proc ∙ sym (site_local t ds c g l)

-- the item of a return
pub return_here : (t : TypedProgram) (ds : List Declaration) (c : Config) (p : ℕ) (h : Option Heading) (i : Item) → length t.globals ≤ length c.globals → length (locals_at t c.top.proc) ≤ length c.top.locals →
    i ≡ return_site h → h ≡ slice_get (headings ds) p → p ≡ c.top.proc → span_at t c.top.proc c.top.point ≡ None → i ≡ site t ds c
return_here t ds c p h i g l is head proc none =
    is ∙ ap return_site head ∙ ap (λ (q : ℕ). return_site (slice_get (headings ds) q)) proc
    ∙ ap (site_at ds c.top.proc) (sym none) ∙ sym (site_action t ds c g l)
