-- Where the links at the end of a path lead to.
use Rattle.std.specs.Prelude.{◌≡◌, ◌==◌, ◌⊎◌, ℕ, List, Option, None, Some, codes, length, option_map, if◌then◌else◌}
use Rattle.std.proofs.Common.{suc}
use Rattle.std.specs.Path.{path_join, path_parent}

-- the folder of this name, which is that of the process where the name is empty
abbrev pub folder_named : List ℕ → List ℕ
folder_named name = if length name == 0 then codes "." else name

-- the folder in which the file of a path is
abbrev pub folder_of : List ℕ → Option (List ℕ)
folder_of path = option_map folder_named (path_parent path)

-- the path that a link leads to: its target, as it is read from the folder of the link
abbrev pub path_behind : List ℕ → List ℕ → Option (List ℕ)
path_behind path target = option_map (λ folder. path_join folder target) (folder_of path)

module _ (leads : List ℕ → List ℕ → Type 0) where
  -- the second path is reached from the first over so many links
  pub data IsReached : List ℕ → List ℕ → ℕ → Type 0 where
    here : {path : List ℕ} → IsReached path path 0
    over : {from link to : List ℕ} {n : ℕ} (target : List ℕ) → IsReached from link n → leads link target → path_behind link target ≡ Some to → IsReached from to (suc n)

  -- the path that is reached over all links that lead on, of at most 40
  abbrev pub IsEnd : (List ℕ → Type 0) → List ℕ → List ℕ → Type 0
  IsEnd ends from to = (n : ℕ) × IsReached from to n × (ends to ⊎ (folder_of to ≡ None) ⊎ (n ≡ 40))
