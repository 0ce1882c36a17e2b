-- What a sink of texts does with a list of items.
use Rattle.std.proofs.Common.{◌≡◌, List, [], ◌∷◌, ◌++◌, refl, ap, ◌∙◌, inl, inr, sym, subst}
use Rattle.tm_items.specs.Item.{Item}
use Rattle.tm_items.specs.Sinks.{TakesAll, RefusesOne}
use Rattle.tm_faults.specs.declared.run.RunFault.{RunFault}
use Rattle.tm_output.specs.Outputs.{Took, Stopped, Buffering}
use Rattle.tm_packet.specs.Merge.{Entries}
use Rattle.tm_output.specs.Pieces.{Texts, piece_of, noted, noted_all, pieces_of}
use Rattle.tm_output.specs.Seen.{Fixture, OutputState}
use Rattle.tm_output.specs.Totals.{totals_with_items}
use Rattle.tm_output.specs.code.Sinking.{Takes, Refuses}
use Rattle.tm_output.proofs.PieceLemmas.{took_none, took_took, took_stopped, stopped_more}

-- with the same fixture the same texts are given
pub same_texts : {M : Type 0} {s t : Fixture M} → t ≡ s → t.texts ≡ s.texts
same_texts {M} same = ap (λ (f : Fixture M). f.texts) same

module _ {A K M : Type 0} (grows : K → K → List A → Type 0) (grows-nil : (k : K) → grows k k [])
    (grows-trans : (j k l : K) (xs ys : List A) → grows j k xs → grows k l ys → grows j l (xs ++ ys))
    (text : M → Texts A) (buffering : Buffering) where
  pub record TookAll (s : OutputState K M) (xs : List Item) (t : OutputState K M) : Type 0 where
    pub same : t.fixture ≡ s.fixture
    pub noted_is : t.entries ≡ noted_all s.entries xs
    pub took : Took grows s.view t.view (pieces_of (text s.fixture.texts) s.entries xs)
    pub totals_is : t.totals ≡ totals_with_items (text s.fixture.texts) s.entries s.totals xs

  pub record StoppedAmong (s : OutputState K M) (xs : List Item) (fault : RunFault) (t : OutputState K M) : Type 0 where
    pub same : t.fixture ≡ s.fixture
    pub stopped : Stopped grows buffering s.view t.view (pieces_of (text s.fixture.texts) s.entries xs) fault

  pub took_all : (s : OutputState K M) (xs : List Item) (t : OutputState K M) → TakesAll (Takes grows text buffering) s xs t → TookAll s xs t
  took_all s [] t h = subst (TookAll s []) (sym h) (record { same = refl; noted_is = refl; took = took_none grows grows-nil grows-trans s.view; totals_is = refl })
  took_all s (x ∷ xs) t (mid, one, h) =
      let more = took_all mid xs t h in
      let noted_is = more.noted_is ∙ ap (λ (e : Entries). noted_all e xs) one.noted_is in
      let took = took_took grows grows-nil grows-trans s.view mid.view t.view (piece_of (text s.fixture.texts) s.entries x ∷ [])
      (pieces_of (text s.fixture.texts) (noted s.entries x) xs) one.took (rw (one.same, one.noted_is) at more.took) in
      let totals_is = more.totals_is ∙ rw (one.same, one.noted_is, one.totals_is) refl in
      record { same = more.same ∙ one.same; noted_is = noted_is; took = took; totals_is = totals_is }

  pub stopped_among : (s : OutputState K M) (xs : List Item) (fault : RunFault) (t : OutputState K M)
      → RefusesOne (Takes grows text buffering) (Refuses grows text buffering) s xs fault t
      → StoppedAmong s xs fault t
  stopped_among s [] fault t h = absurd h
  stopped_among s (x ∷ xs) fault t (inl h) =
      let stopped = stopped_more grows grows-nil grows-trans buffering s.view t.view (piece_of (text s.fixture.texts) s.entries x ∷ [])
      (pieces_of (text s.fixture.texts) (noted s.entries x) xs) fault h.stopped in
      record { same = h.same; stopped = stopped }
  stopped_among s (x ∷ xs) fault t (inr (mid, one, h)) =
      let more = stopped_among mid xs fault t h in
      let stopped = took_stopped grows grows-nil grows-trans buffering s.view mid.view t.view (piece_of (text s.fixture.texts) s.entries x ∷ [])
      (pieces_of (text s.fixture.texts) (noted s.entries x) xs) one.took fault (rw (one.same, one.noted_is) at more.stopped) in
      record { same = more.same ∙ one.same; stopped = stopped }
