-- What a contract sees of a list that is copied.
use Rattle.std.specs.Prelude.{ℕ, ◌-◌, List, ◌++◌, length, replicate, refl}
use Rattle.std.specs.Coded.{Coded, code_by, coded_list}

-- the elements, in order
pub record Listed (T : Type 0) : Type 0 where
  pub items : List T

-- it is stored as the list of its elements
abbrev pub listed_code : {T : Type 0} → Coded T → Coded (Listed T)
listed_code {T} code = code_by (List T) (coded_list code) (λ v. v.items) (λ xs. record { items = xs }) (λ _. refl)

-- so many places, the first of which have these elements
abbrev pub filled : {T : Type 0} → ℕ → T → List T → List T
filled room none items = items ++ replicate (room - length items) none
