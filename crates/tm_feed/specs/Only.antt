-- Which applications' packets a job gives.
use Rattle.std.specs.Prelude.{◌≡◌, ◌<◌, ◌==◌, ℕ, Bool, List, length, nat_lt, true, false}
use Rattle.std.specs.List.{list_any}
use Rattle.tm_feed.specs.Feeding.{gives}
use Rattle.tm_feed.specs.States.{FeedState}

-- a number is over 2047
abbrev pub is_over : List ℕ → Bool
is_over applications = list_any (nat_lt 2047) applications

abbrev pub IsNoApplication : List ℕ → Type 0
IsNoApplication applications = is_over applications ≡ true

-- an application is in the list
abbrev pub is_among : List ℕ → ℕ → Bool
is_among applications application = list_any (λ a. a == application) applications

-- of the 2,048 applications just those in the list are given
pub record AreTheseGiven (applications : List ℕ) (only : List Bool) : Type 0 where
  pub few : is_over applications ≡ false
  pub all : length only ≡ 2048
  pub each : (application : ℕ) → application < 2048 → gives only application ≡ is_among applications application

-- from now on a job gives the packets of these applications alone
abbrev pub GivesOnly : List ℕ → FeedState → FeedState → Type 0
GivesOnly applications old new =
    AreTheseGiven applications new.chosen.only × (new ≡ record old { chosen = record old.chosen { only = new.chosen.only } })
