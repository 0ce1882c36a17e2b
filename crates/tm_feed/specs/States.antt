-- A job that is fed: how far it has got.
use Rattle.std.specs.Prelude.{◌≤◌, ℕ, Bool, Option, List}
use Rattle.tm_fields.specs.declared.field.Field.{Field}
use Rattle.tm_checkpoint.specs.Works.{Work}
use Rattle.tm_feed.specs.declared.job.EndProgress.{EndProgress}
use Rattle.tm_feed.specs.declared.job.EndProgress.TheVariants.{Open, Groups, Told}

-- Which packets a job gives: for each application whether its packets are given, and the fields of its rows, if it has a definition. It knows
-- how many octets the longest row has of all definitions that it took: 0 without any.
pub record Chosen : Type 0 where
  pub only : List Bool
  pub rows : List (Option (List Field))
  pub longest : ℕ

-- How far a job has got: its work, and the octets so far of the next record. It knows which packets it gives, and how far the end of the
-- recording is told.
pub record FeedState : Type 0 where
  pub work : Work
  pub part : List ℕ
  pub chosen : Chosen
  pub end : EndProgress

-- groups are left from a key on that there may be
abbrev pub IsKey : EndProgress → Type 0
IsKey Open = Unit {0}
IsKey (Groups key) = key ≤ 16384
IsKey Told = Unit {0}
