-- Question 8, about the places of the working slices.
use Rattle.std.proofs.Math.Logic.Dec
use mathlib.Core.List.{List, [], ◌∷◌, Memᴰ}
use Rattle.std.specs.Prelude.{◌≡◌, ℕ, ◌≤◌, min, Result, MatchResult}
use Rattle.std.proofs.Math.Decide.{dec_le}
use Rattle.strips.specs.Decision.{ask}
use Rattle.outcome.specs.declared.Refusal.{Refusal}
use Rattle.outcome.specs.declared.Refusal.TheVariants.{WorkspaceSize}
use Rattle.search.specs.Limits.{max_places}

-- each working slice has 1 to 32,768 places
abbrev pub SizesAllowed : List ℕ → Type 0
SizesAllowed sizes = (n : ℕ) → Memᴰ n sizes → (1 ≤ n) × (n ≤ max_places)

-- the places of the shortest working slice
unfoldable pub shortest : List ℕ → ℕ
shortest [] = max_places
shortest (n ∷ sizes) = min n (shortest sizes)

-- the same, or 0 where a slice has too few or too many places
unfoldable pub capacity : List ℕ → ℕ
capacity [] = max_places
capacity (n ∷ sizes) = ask (Dec.and (dec_le 1 n) (dec_le n max_places)) 0 (min n (capacity sizes))

-- what question 8 hands back of slices of these sizes
abbrev pub PlacesOf : List ℕ → Result ℕ Refusal → Type 0
PlacesOf sizes r = MatchResult r (λ n. (1 ≤ n) × (n ≡ capacity sizes)) (λ e. (0 ≡ capacity sizes) × (e ≡ WorkspaceSize))
