-- Items that a sink takes one after the other: what taking the rest of them leads to.
use Rattle.std.proofs.Common.{◌≡◌, List, [], ◌∷◌, ◌++◌, refl, sym, subst, inl, inr, Result, Ok, Err}
use Rattle.tm_items.specs.declared.sink.Sink as sink
use Rattle.tm_items.specs.Giving.{Gives}
use Rattle.tm_items.specs.Item.{Item}
use Rattle.tm_items.specs.Sinks.{TakesAll, RefusesOne}

-- taking two lists, one after the other
pub TakesAll-append : {S : Type 0} (takes : S → Item → S → Type 0) (old mid new : S) (xs ys : List Item)
    → TakesAll takes old xs mid → TakesAll takes mid ys new → TakesAll takes old (xs ++ ys) new
TakesAll-append {S} takes old mid new [] ys h k = subst (λ (s : S). TakesAll takes s ys new) h k
TakesAll-append takes old mid new (x ∷ xs) ys h k = (h.0, h.1, TakesAll-append takes h.0 mid new xs ys h.2 k)

pub RefusesOne-left : {S F : Type 0} (takes : S → Item → S → Type 0) (refuses : S → Item → F → S → Type 0) (old new : S) (xs ys : List Item) (fault : F)
    → RefusesOne takes refuses old xs fault new → RefusesOne takes refuses old (xs ++ ys) fault new
RefusesOne-left takes refuses old new [] ys fault h = absurd h
RefusesOne-left takes refuses old new (x ∷ xs) ys fault (inl h) = inl h
RefusesOne-left takes refuses old new (x ∷ xs) ys fault (inr h) = inr (h.0, h.1, RefusesOne-left takes refuses h.0 new xs ys fault h.2)

pub RefusesOne-right : {S F : Type 0} (takes : S → Item → S → Type 0) (refuses : S → Item → F → S → Type 0) (old mid new : S) (xs ys : List Item) (fault : F)
    → TakesAll takes old xs mid → RefusesOne takes refuses mid ys fault new → RefusesOne takes refuses old (xs ++ ys) fault new
RefusesOne-right {S} takes refuses old mid new [] ys fault h k = subst (λ (s : S). RefusesOne takes refuses s ys fault new) h k
RefusesOne-right takes refuses old mid new (x ∷ xs) ys fault h k =
    inr (h.0, h.1, RefusesOne-right takes refuses h.0 mid new xs ys fault h.2 k)

-- a call that gives further items after those that were taken, and one that is refused among some first ones
module _ {S F T : Type 0} (s : sink.Ghosts S F) (old mid new : S) (xs ys : List Item) where
  pub gives_behind : (r : Result T F) → TakesAll s.takes (s.known old) xs (s.known mid) → Gives s mid new ys r → Gives s old new (xs ++ ys) r
  gives_behind (Ok value) before h = TakesAll-append s.takes _ _ _ xs ys before h
  gives_behind (Err fault) before h = RefusesOne-right s.takes s.refuses _ _ _ xs ys fault before h

-- what follows from taking the rest of the items, or from refusing one of them
pub record Leads {S F : Type 0} (takes : S → Item → S → Type 0) (refuses : S → Item → F → S → Type 0) (start now : S) (all rest : List Item) : Type 0 where
  pub accepted : (new : S) → TakesAll takes now rest new → TakesAll takes start all new
  pub refused : (fault : F) (new : S) → RefusesOne takes refuses now rest fault new → RefusesOne takes refuses start all fault new

-- a list of items taken, of those that are still to be given
pub leads_all : {S F : Type 0} {takes : S → Item → S → Type 0} {refuses : S → Item → F → S → Type 0} {start now : S} {all rest : List Item}
    → Leads takes refuses start now all rest → (mid : S) (xs more : List Item) → rest ≡ xs ++ more → TakesAll takes now xs mid
    → Leads takes refuses start mid all more
leads_all {takes = takes} {refuses = refuses} {now = now} l mid xs more e t =
    record {
      accepted = λ new h. l.accepted new (subst (λ (ys : List Item). TakesAll takes now ys new) (sym e) (TakesAll-append takes now mid new xs more t h));
      refused = λ fault new h. l.refused fault new (subst (λ (ys : List Item). RefusesOne takes refuses now ys fault new) (sym e) (RefusesOne-right takes refuses now mid new xs more fault t h));
    }

-- one item taken
pub leads_take : {S F : Type 0} {takes : S → Item → S → Type 0} {refuses : S → Item → F → S → Type 0} {start now : S} {all rest : List Item}
    → Leads takes refuses start now all rest → (mid : S) (x : Item) (more : List Item) → rest ≡ x ∷ more → takes now x mid → Leads takes refuses start mid all more
leads_take l mid x more e t = leads_all l mid (x ∷ []) more e (mid, t, refl)

pub leads_refused : {S F : Type 0} {takes : S → Item → S → Type 0} {refuses : S → Item → F → S → Type 0} {start now : S} {all rest : List Item}
    → Leads takes refuses start now all rest → (fault : F) (new : S) (xs more : List Item) → rest ≡ xs ++ more → RefusesOne takes refuses now xs fault new
    → RefusesOne takes refuses start all fault new
leads_refused {takes = takes} {refuses = refuses} {now = now} l fault new xs more e r =
    l.refused fault new (subst (λ (ys : List Item). RefusesOne takes refuses now ys fault new) (sym e) (RefusesOne-left takes refuses now new xs more fault r))
