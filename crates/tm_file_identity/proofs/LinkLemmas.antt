-- Paths that are reached over links, one link after the other.
use Rattle.std.proofs.Common.{◌≡◌, ◌∙◌, ◌+◌, ℕ, List, Option, Some, add-one, ap, subst, sym}
use Rattle.std.specs.Path.{path_buf_bytes}
use Rattle.std.specs.Prelude.{MatchOption, option_map}
use Rattle.std.specs.declared.path.buf.PathBuf.{PathBuf}
use Rattle.tm_file_identity.specs.Links.{IsReached, path_behind}
use Rattle.tm_file_identity.specs.Links.IsReached.{here, over}

module _ (leads : List ℕ → List ℕ → Type 0) where
  -- no link is followed yet
  pub reached_here : (from to : List ℕ) → to ≡ from → IsReached leads from to 0
  reached_here from to same = subst (λ (path : List ℕ). IsReached leads from path 0) (sym same) here

  -- one link more
  pub reached_next : {A : Type 0} (ends : List ℕ → Type 0) (from : List ℕ) (n : ℕ) (link : PathBuf A) (found : Option (PathBuf A)) (target : PathBuf A)
      (behind : Option (PathBuf A)) (next : PathBuf A) → IsReached leads from (path_buf_bytes link) n
      → MatchOption found (ends (path_buf_bytes link)) (λ t. leads (path_buf_bytes link) (path_buf_bytes t)) → found ≡ Some target
      → option_map path_buf_bytes behind ≡ path_behind (path_buf_bytes link) (path_buf_bytes target) → behind ≡ Some next
      → IsReached leads from (path_buf_bytes next) (n + 1)
  reached_next ends from n link found target behind next reached told is led ends_at =
      let leads_on : leads (path_buf_bytes link) (path_buf_bytes target) =
      subst (λ o. MatchOption o (ends (path_buf_bytes link)) (λ t. leads (path_buf_bytes link) (path_buf_bytes t))) is told in
      subst (λ (m : ℕ). IsReached leads from (path_buf_bytes next) m) (sym (add-one n))
      (over (path_buf_bytes target) reached leads_on (sym led ∙ ap (option_map path_buf_bytes) ends_at))
