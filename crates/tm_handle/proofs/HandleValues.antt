-- The machine values of a handle. Assumes `Logic`.
use Rattle.std.proofs.Common.{◌≡◌, ℕ, List, [], ◌∷◌, ◌++◌, refl, subst, lit<}
use seplogic.Ra.Ura.{Ura}
use mir.Syntax.{Dict, ty_ptr, impl, tcons, tnil, dnil}
use mir.Val.{Val, vstruct, of_list, has_ty}
use mir.Raw.{raw as bare}
use base.Fraction.{full_share}
use base.Fml.{Fml}
use base.Logic.{ent, guard, via, snd∗, fst∗, never, guard_i}
use types.Logic.{Logic, sem}
use contract.Monad.{fact_use}
use types.Kit.{Item, Goal, Seq, Step, step, ‵, given, learn, use1, ◌$◌, move, drop, fsplit, fjoin, fpick, fpack, feq_i, feq_l}
use denote.RattleType.{RattleType, Valss}
use denote.Builtin.{RawPtr}
use denote.Param.{layout}
use denote.RawPtr.{Ptr, ptr_val, block_ptr, null_ptr, lies_at, in_a_block, Testable}
use denote.Memory.{lone}
use denote.Steps.{nothing}
use denote.Struct.Struct.{within}
use denote.Struct.Owning.{shape}
use Rattle.std.proofs.alloc.Calls.{Al, handle_tells}
use Rattle.std.proofs.ResultValues.{and_tt}
use Rattle.std.specs.declared.option.Option.{Option}
use Rattle.std.specs.declared.option.Option.TheVariants.{None, Some}
use Rattle.std.specs.declared.alloc.Global.{Global as heap_value}
use Rattle.std.specs.Box.Ownership.{box_owns}
use Rattle.std.proofs.GlobalToken.{dealloc_token-Testable}
use Rattle.std.specs.contracts.alloc.Global as heap
use Rattle.std.proofs.alloc.Global.TheLaws as heap_laws
use Rattle.std.specs.contracts.impls.GlobalAllocator.TheImpl.{ghosts, dict}
use Rattle.tm_feed.specs.States.{FeedState}
use Rattle.tm_feed.specs.contracts.job.FedJob as fed
use Rattle.tm_handle.specs.contracts.handle.Handle as handle
use Rattle.tm_handle.specs.Owned.{owned}
use Rattle.tm_handle.proofs.LooseValues.{Good, both}

abbrev pub Z : RattleType
Z = heap.the_row

abbrev pub Handle : RattleType
Handle = handle.the_row

-- the dictionary that says how a `Global` is dropped
abbrev pub heap_drops : Dict
heap_drops = impl ("tm_handle::Destruct++none::drop" ∷ []) (tcons (layout Z) tnil) dnil

abbrev pub al : Al
al = record { row = Z; laws = heap_laws.the_row_laws; g = ghosts; d = dict; drops = heap_drops }

pub ptr_good : (p : Ptr) → Good ty_ptr (ptr_val p)
ptr_good (block_ptr b o) = (tt, tt)
ptr_good null_ptr = (tt, record { fits = lit< tt })

pub handle_good : (p : Ptr) (h : Val) → Good (layout Z) h → Good (layout Handle) (both (ptr_val p) h)
handle_good (block_ptr b o) h fits = (and_tt (has_ty (layout Z) h) fits.0, (tt, (fits.1, tt)))
handle_good null_ptr h fits = (and_tt (has_ty (layout Z) h) fits.0, (record { fits = lit< tt }, (fits.1, tt)))

module _ {M : Type 1} {𝓤 : Ura M} {𝓛 : Logic 𝓤} {K : Type 0} {Γ : List (Item 𝓤)} {G : Goal 𝓤 𝓛.H} where
  pub handle_out : K → (d : Handle.Denot) (vs : List Val)
      → ((h : Val) → vs ≡ both (ptr_val d.at) h ∷ [] → Good (layout Z) h → Seq K 𝓛 (‵ (owned d.alloc d.at d.job) ∷ ‵ (Z.own_val d.alloc (h ∷ [])) ∷ Γ) G)
      → Seq K 𝓛 (‵ (Handle.own_val d vs) ∷ Γ) G
  handle_out t d vs k =
      fsplit t $ fpick t (λ vss. fsplit t $ feq_l t (λ ev. fsplit t $ feq_l t (λ ep. fsplit t $ handle_tells al t d.alloc vss.1.0 (λ h ea fits. move t (1 ∷ []) $ drop t $ move t (1 ∷ []) $ k h
      (subst (λ (ws : List Val). vs ≡ vstruct (of_list (ptr_val d.at ∷ (ws ++ []))) ∷ []) ea (subst (λ (ps : List Val). vs ≡ vstruct (of_list (ps ++ (vss.1.0 ++ []))) ∷ []) ep ev)) fits))))

  pub handle_in : K → (p : Ptr) (h : Val) (a : Z.Denot) (x : Option FeedState)
      → Step K 𝓛 (‵ (Handle.own_val (record { at = p; alloc = a; job = x }) (both (ptr_val p) h ∷ [])) ∷ Γ) G (‵ (owned a p x) ∷ ‵ (Z.own_val a (h ∷ [])) ∷ Γ) G
  handle_in t p h a x = step (λ s. let v : Val = both (ptr_val p) h in
      nothing t $ move t (2 ∷ 0 ∷ []) $ fjoin t $ feq_i t (List Val) (ptr_val p ∷ []) (ptr_val p ∷ []) refl $ fjoin t $ feq_i t (List Val) (v ∷ []) (v ∷ []) refl $ fjoin t $
      fpack t (Valss (RawPtr ∷ (heap.the_field).row ∷ [])) (within (shape handle.the_type) (p, ((heap.the_field).into a, tt)) (v ∷ [])) (ptr_val p ∷ [], (h ∷ [], tt)) $ fjoin t $ s)

module _ {M : Type 1} {𝓤 : Ura M} (𝓛 : Logic 𝓤) (a : heap_value) (p : Ptr) (x : FeedState) where
  abbrev pub boxed : Ptr → Fml
  boxed q = box_owns (ghosts.dealloc_token a) fed.the_row q x

  pub tested : ent 𝓤 (sem 𝓛 (boxed p)) (guard 𝓤 (Testable p) (sem 𝓛 (boxed p)))
  tested = let ty = bare (lone (fed.the_row).mir) in
      fact_use 𝓤 (Testable p) (via 𝓤 _ (snd∗ 𝓤 (sem 𝓛 (lies_at fed.the_row full_share p x)) (sem 𝓛 (ghosts.dealloc_token a ty p))) (dealloc_token-Testable 𝓛 a ty p)) (guard_i 𝓤 (Testable p) (sem 𝓛 (boxed p)))

module _ {M : Type 1} {𝓤 : Ura M} {𝓛 : Logic 𝓤} {K : Type 0} {Γ : List (Item 𝓤)} {G : Goal 𝓤 𝓛.H} where
  -- a handle is null and holds nothing, or it points to what it holds
  pub either_owned : K → (a : heap_value) (p : Ptr) (x : Option FeedState)
      → (p ≡ null_ptr → x ≡ None → Seq K 𝓛 Γ G)
      → ((b o : ℕ) (y : FeedState) → p ≡ block_ptr b o → x ≡ Some y → Testable (block_ptr b o) → Seq K 𝓛 (‵ (boxed 𝓛 a null_ptr y (block_ptr b o)) ∷ Γ) G)
      → Seq K 𝓛 (‵ (owned a p x) ∷ Γ) G
  either_owned t a p None none one = feq_l t (λ e. none e refl)
  either_owned t a p (Some y) none one =
      in_a_block t p (boxed 𝓛 a null_ptr y) (fst∗ 𝓤 (never 𝓤) (sem 𝓛 (ghosts.dealloc_token a (bare (lone (fed.the_row).mir)) null_ptr))) (λ b o e.
      use1 𝓛 (given (Testable (block_ptr b o)) (‵ (boxed 𝓛 a null_ptr y (block_ptr b o)))) (tested 𝓛 a (block_ptr b o) y) $ learn t (λ s. one b o y e refl s))
