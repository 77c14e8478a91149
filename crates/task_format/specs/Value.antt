-- A line's value: what it says, and the questions 4, 17, 18, 5 and 6, each about the whole value.
use Rattle.std.specs.Prelude.{◌≡◌, List, [], ◌∷◌, map, ◌⊎◌, ℕ, ◌+◌, ◌-◌, ◌*◌, ◌^◌, ◌≤◌, ◌<◌, length, get_or}
use Rattle.strips.specs.Limits.{max_facts}
use Rattle.task_format.specs.Limits.{max_digits}
use Rattle.task_format.specs.Text.{comma, zero_digit, parts}
use Rattle.task_format.specs.declared.Kind.{Kind}
use Rattle.task_format.specs.declared.Kind.TheVariants.{Number, FactList}

-- each element has the property
abbrev pub All : {A : Type 0} → (A → Type 0) → List A → Type 0
All P [] = Unit {0}
All P (x ∷ l) = P x × All P l

abbrev pub IsDigit : ℕ → Type 0
IsDigit b = (zero_digit ≤ b) × (b ≤ zero_digit + 9)

-- one to five digits, no leading zero except "0" itself
pub record IsNumber (v : List ℕ) : Type 0 where
  pub some : 1 ≤ length v
  pub few : length v ≤ max_digits
  pub digits : All IsDigit v
  pub plain : get_or v 0 0 ≡ zero_digit → length v ≡ 1

-- of the bytes of a number: there is one, there are at most five, and the first is a zero only in "0" itself
abbrev pub Present : List ℕ → Type 0
Present v = 1 ≤ length v

abbrev pub Short : List ℕ → Type 0
Short v = length v ≤ max_digits

abbrev pub NoLeadingZero : List ℕ → Type 0
NoLeadingZero v = get_or v 0 0 ≡ zero_digit → length v ≡ 1

-- the number that digits say, behind those that say n
unfoldable pub decimal_from : ℕ → List ℕ → ℕ
decimal_from n [] = n
decimal_from n (b ∷ v) = decimal_from (n * 10 + (b - zero_digit)) v

abbrev pub decimal : List ℕ → ℕ
decimal v = decimal_from 0 v

-- the members of a list: none where it is empty, and else the numbers of its parts
unfoldable pub members : List ℕ → List ℕ
members [] = []
members (b ∷ v) = map decimal (parts (b ∷ v))

-- each number is greater than the one before it; the first, than m
abbrev pub RisesFrom : ℕ → List ℕ → Type 0
RisesFrom m [] = Unit {0}
RisesFrom m (k ∷ ms) = (m < k) × RisesFrom k ms

abbrev pub Rises : List ℕ → Type 0
Rises [] = Unit {0}
Rises (m ∷ ms) = RisesFrom m ms

abbrev pub Between : ℕ → ℕ → ℕ → Type 0
Between low high n = (low ≤ n) × (n ≤ high)

-- question 4: are there only digits, and in a list commas, no number has too many of them, and on a number's line there is one?
unfoldable pub InForm : Kind → List ℕ → Type 0
InForm (Number low high) v = (All IsDigit v × Short v) × Present v
InForm (FactList most) v = All (λ b. IsDigit b ⊎ (b ≡ comma)) v × All Short (parts v)

-- question 17: is no place of a list empty?
unfoldable pub Filled : Kind → List ℕ → Type 0
Filled (Number low high) v = Unit {0}
Filled (FactList most) v = (v ≡ []) ⊎ All Present (parts v)

-- question 18: has no number a leading zero?
unfoldable pub Unpadded : Kind → List ℕ → Type 0
Unpadded (Number low high) v = NoLeadingZero v
Unpadded (FactList most) v = All NoLeadingZero (parts v)

-- question 5: is every number in its range?
unfoldable pub InRange : Kind → List ℕ → Type 0
InRange (Number low high) v = Between low high (decimal v)
InRange (FactList most) v = All (Between 1 most) (members v)

-- question 6: does the list rise strictly?
unfoldable pub Ascending : Kind → List ℕ → Type 0
Ascending (Number low high) v = Unit {0}
Ascending (FactList most) v = Rises (members v)

-- the set of some facts, in which fact m is bit m - 1
unfoldable pub set_of : List ℕ → ℕ
set_of [] = 0
set_of (m ∷ ms) = 2 ^ (m - 1) + set_of ms

-- what the record holds of a value: a number, or a set of facts
unfoldable pub content : Kind → List ℕ → ℕ
content (Number low high) v = decimal v
content (FactList most) v = set_of (members v)

-- x is a number or a set of this kind
abbrev pub OfKind : Kind → ℕ → Type 0
OfKind (Number low high) x = Between low high x
OfKind (FactList most) x = x < 2 ^ most

-- the numbers of a kind have at most five digits, the members of its lists are at most 64
abbrev pub Modest : Kind → Type 0
Modest (Number low high) = high < 10 ^ max_digits
Modest (FactList most) = most ≤ max_facts
