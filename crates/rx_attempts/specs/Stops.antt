-- Why an attempt stopped without an answer.
use Rattle.std.specs.Prelude.{ℕ, Bool, false, nat_eq}
use Rattle.rx_limited.specs.declared.retry_error.RetryError.{RetryError}
use Rattle.rx_attempts.specs.declared.patience.Patience.{Patience}
use Rattle.rx_attempts.specs.declared.patience.Patience.TheVariants.{Endless, Short}
use Rattle.rx_attempts.specs.declared.patience.Stop.{Stop}
use Rattle.rx_attempts.specs.declared.patience.Stop.TheVariants.{Retry, Dense}

-- it may be lost
abbrev pub IsShort : Patience → Type 0
IsShort Endless = ⊥
IsShort Short = Unit {0}

-- it is lost, where so much of it is left
abbrev pub is_lost : Patience → (left : ℕ) → Bool
is_lost Endless left = false
is_lost Short left = nat_eq left 0

-- another search is to be tried, for one of these reasons; or a short patience was lost
abbrev pub StopsBy : Patience → (RetryError → Type 0) → Stop → Type 0
StopsBy patience Fails (Retry error) = Fails error
StopsBy patience Fails Dense = IsShort patience
