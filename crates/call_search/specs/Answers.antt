-- What the search of a call says, by what the code answers: a refusal, or an answer that stands in the workspace.
-- That is what the definition's whole call says. Leans on PreparedCalls and on the steps of a call.
use Rattle.std.specs.Prelude.{◌≡◌, List, ℕ, suc, ◌+◌, ◌≤◌, Result, Ok, Err}
use Rattle.std.proofs.Math.Path.{ap}
use Rattle.std.proofs.Common.{◌∙◌}
use Rattle.definitions.specs.Outcome as result
use Rattle.definitions.specs.Search.{Found}
use Rattle.definitions.specs.Recursion.{Answer}
use Rattle.definitions.specs.Faceting.{Way, prepare_with, search_from, finish, faceting, faceting_with}
use Rattle.layout.specs.declared.Level.{Level}
use Rattle.layout.specs.Leaves.{Leaves, answer_left}
use Rattle.layout.specs.Capacities.{images_from, listed_bytes}
use Rattle.calls.specs.declared.Rules.{Rules}
use Rattle.calls.specs.declared.Called.{Called}
use Rattle.calls.specs.declared.Called.TheVariants.{Ends, Left}
use Rattle.refusals.specs.declared.Refusal.{Refusal}
use Rattle.refusals.specs.Refused.{number_of}
use Rattle.calls.specs.Steps.{call_searched}
use Rattle.call_search.specs.PreparedCalls.{PreparedCall, points_in, kept_in, call_rules}

-- the answer stands in the workspace, with what is left of the budget; behind its entries a call of rank 4 has room
-- for the images of its facets
pub record Answers (k : PreparedCall) (rules : Rules) (level : Level) (rest : ℕ) (s : List ℕ) : Type 0 where
  pub found : Found
  pub is_found_holds : search_from (call_rules rules) k.prepared ≡ result.answered found
  pub rest_is : rest ≡ found.left
  pub leaves : Leaves k.more (points_in k) k.rows (kept_in k) level s
  pub answer : finish k.prepared found ≡ answer_left k.more (points_in k) k.rows (kept_in k) level s rest
  pub ends : level.lists + (level.bytes + listed_bytes) ≤ images_from

-- what the search of a call says, by what was answered: never ends alone, which are an answer of rank 2
unfoldable pub Searched : PreparedCall → Rules → Result Called Refusal → List ℕ → Type 0
Searched k rules (Err e) s = search_from (call_rules rules) k.prepared ≡ result.refused (number_of e)
Searched k rules (Ok (Ends swaps rest)) s = ⊥
Searched k rules (Ok (Left level rest)) s = Answers k rules level rest s

-- ---- the whole call

module _ (way : Way) (k : PreparedCall) (rules : Rules) (budget : ℕ) (prepared : prepare_with way k.more
    (call_rules rules) (faceting k.more (call_rules rules)) k.plane k.points k.rows budget
    ≡ result.answered k.prepared) where
  abbrev call : result.Outcome Answer
  call = faceting_with way (suc k.more) (call_rules rules) k.plane k.points k.rows budget

  abbrev next : Found → result.Outcome Answer
  next found = result.answered (finish k.prepared found)

  -- what the search says is what the call says
  pub searched_refused : (e : Refusal) (s : List ℕ) → Searched k rules (Err e) s → call ≡ result.refused (number_of e)
  unfolding Searched result.and_then
  searched_refused e s is =
      call_searched way k.more (call_rules rules) k.plane k.points k.rows budget k.prepared prepared
      ∙ ap (λ (o : result.Outcome Found). result.and_then o next) is

  pub searched_answered : (level : Level) (rest : ℕ) (s : List ℕ) → Searched k rules (Ok (Left level rest)) s
      → call ≡ result.answered (answer_left k.more (points_in k) k.rows (kept_in k) level s rest)
  unfolding Searched result.and_then
  searched_answered level rest s a =
      call_searched way k.more (call_rules rules) k.plane k.points k.rows budget k.prepared prepared
      ∙ (ap (λ (o : result.Outcome Found). result.and_then o next) a.is_found_holds ∙ ap result.answered a.answer)
