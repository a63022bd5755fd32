-- What a list of needs tells, of any rule on any state: of an accepted call, that every need holds; of a refused one, that nothing changed
-- and the lowest number won; and which numbers may be returned.
use Prim.Native.Nat.{ℕ, zero, suc, ◌≤◌}
use mathlib.Core.Path.{◌≡◌, refl, sym, ap, ◌∙◌}
use mathlib.Core.Bool.{Bool, true, false, ◌&&◌}
use mathlib.Core.List.Memᴰ
use mathlib.Core.List.{List, [], ◌∷◌, ◌++◌, Memᴰ}
use mathlib.Core.Logic.{⊎_elim}
use native.Mathlib.Omega.{arith}
use lib.Dec.{leb}
use Rattle.protocol.specs.Outcome.{Need, ◌else◌, first_refusal, OutcomeOf, RuleOf, acceptance, refusal_of, answered, follow}
use Rattle.protocol.specs.Theorems.{Accepted, Refused, Lowest}
use Rattle.protocol.proofs.logic.Booleans.{tests, and-true}

-- Every need of a list holds.
abbrev pub Holds : List Need → Type 0
Holds [] = Unit {0}
Holds ((t else n) ∷ rest) = (t ≡ true) × Holds rest

-- The numbers of the needs do not fall, from a least one on.
abbrev pub rising_from : ℕ → List Need → Bool
rising_from least [] = true
rising_from least ((t else n) ∷ rest) = leb least n && rising_from n rest

-- What a rule's needs have in common: no number is 0.
abbrev pub positive : List Need → Bool
positive [] = true
positive ((t else n) ∷ rest) = leb 1 n && positive rest

pub all_needs : (ns : List Need) → positive ns ≡ true → first_refusal ns ≡ 0 → Holds ns
unfolding first_refusal
all_needs [] p e = tt
all_needs ((true else n) ∷ rest) p e = (refl, all_needs rest (and-true (leb 1 n) (positive rest) p).1 e)
all_needs ((false else n) ∷ rest) p e = let h = and-true (leb 1 n) (positive rest) p in absurd (omega tests)

pub none_refuses : (ns : List Need) → Holds ns → first_refusal ns ≡ 0
unfolding first_refusal
none_refuses [] h = refl
none_refuses ((t else n) ∷ rest) h = rw h.0 (none_refuses rest h.1)

pub joined_hold : (ns ms : List Need) → Holds ns → Holds ms → Holds (ns ++ ms)
joined_hold [] ms h g = g
joined_hold ((t else n) ∷ ns) ms h g = (h.0, joined_hold ns ms h.1 g)

pub holds_both : (ns ms : List Need) → Holds (ns ++ ms) → Holds ns × Holds ms
holds_both [] ms h = (tt, h)
holds_both ((t else n) ∷ ns) ms h = let both = holds_both ns ms h.1 in ((h.0, both.0), both.1)

-- The first list of two decides where it refuses, and the second where the first passes.
pub refused_first : (ns ms : List Need) → (first_refusal ns ≡ 0 → ⊥) → first_refusal (ns ++ ms) ≡ first_refusal ns
unfolding first_refusal
refused_first [] ms h = absurd (h refl)
refused_first ((true else n) ∷ ns) ms h = refused_first ns ms h
refused_first ((false else n) ∷ ns) ms h = refl

pub all_pass : (ns ms : List Need) → positive ns ≡ true → first_refusal ns ≡ 0 → first_refusal (ns ++ ms) ≡ first_refusal ms
unfolding first_refusal
all_pass [] ms p e = refl
all_pass ((true else n) ∷ ns) ms p e = all_pass ns ms (and-true (leb 1 n) (positive ns) p).1 e
all_pass ((false else n) ∷ ns) ms p e = let h = and-true (leb 1 n) (positive ns) p in absurd (omega tests)

pub first_pass : (ns ms : List Need) → first_refusal (ns ++ ms) ≡ 0 → first_refusal ns ≡ 0
unfolding first_refusal
first_pass [] ms e = refl
first_pass ((true else n) ∷ ns) ms e = first_pass ns ms e
first_pass ((false else n) ∷ ns) ms e = e

pub both_pass : (ns ms : List Need) → first_refusal ns ≡ 0 → first_refusal ms ≡ 0 → first_refusal (ns ++ ms) ≡ 0
unfolding first_refusal
both_pass [] ms e h = h
both_pass ((true else n) ∷ ns) ms e h = both_pass ns ms e h
both_pass ((false else n) ∷ ns) ms e h = e

-- A need that fails, and one that holds, at the head of a list.
pub fails : {t : Bool} {n : ℕ} (rest : List Need) → t ≡ false → first_refusal ((t else n) ∷ rest) ≡ n
unfolding first_refusal
fails rest e = rw e refl

pub holds : {t : Bool} (n : ℕ) (rest : List Need) → t ≡ true → first_refusal ((t else n) ∷ rest) ≡ first_refusal rest
unfolding first_refusal
holds n rest e = rw e refl

-- Where the needs after it refuse with its number, a need does not change that.
pub either_fails : (t : Bool) (n : ℕ) (rest : List Need) → first_refusal rest ≡ n → first_refusal ((t else n) ∷ rest) ≡ n
unfolding first_refusal
either_fails true n rest e = e
either_fails false n rest e = refl

-- ---- accepted and refused, of any rule on any state

module _ {Value State : Type 0} {none : Value} (s : State) (rule : RuleOf none State) where
  -- What holds of every refusal and of what the rule gives holds of the outcome.
  pub outcome_cases : (P : OutcomeOf Value State → Type 0) → ((n : ℕ) → first_refusal rule.needs ≡ suc n → P (refusal_of none (suc n) s))
      → (first_refusal rule.needs ≡ 0 → P (acceptance rule.first rule.second rule.after)) → P (follow s rule)
  unfolding follow answered
  outcome_cases P refused accepted = go (first_refusal rule.needs) refl
    where
      go : (n : ℕ) → first_refusal rule.needs ≡ n → P (answered n s rule)
      go zero e = accepted e
      go (suc n) e = refused n e

  -- What is returned is the first refusal's number, or 0.
  pub returned : (follow s rule).answer.number ≡ first_refusal rule.needs
  returned = outcome_cases (λ o. o.answer.number ≡ first_refusal rule.needs) (λ n e. sym e) sym

  pub no_refusal : Accepted (follow s rule) → first_refusal rule.needs ≡ 0
  no_refusal e = sym returned ∙ e

  -- Accepted exactly where every need holds.
  pub accepted_holds : positive rule.needs ≡ true → Accepted (follow s rule) → Holds rule.needs
  accepted_holds numbered e = all_needs rule.needs numbered (no_refusal e)

  pub holds_accepted : Holds rule.needs → Accepted (follow s rule)
  holds_accepted h = returned ∙ none_refuses rule.needs h

  pub refuses : (n : ℕ) → n ≡ first_refusal rule.needs → (n ≡ 0 → ⊥) → refusal_of none n s ≡ follow s rule
  refuses n e some =
      outcome_cases (λ o. refusal_of none n s ≡ o) (λ k is. rw (e ∙ is) refl) (λ passed. absurd (some (e ∙ passed)))

  pub accepts : 0 ≡ first_refusal rule.needs → acceptance rule.first rule.second rule.after ≡ follow s rule
  accepts e =
      outcome_cases (λ o. acceptance rule.first rule.second rule.after ≡ o) (λ k is. absurd (omega (arith, e, is)))
      (λ passed. refl)

  module _ (accepted : Accepted (follow s rule)) where
    accepted_is : follow s rule ≡ acceptance rule.first rule.second rule.after
    accepted_is = sym (accepts (sym (no_refusal accepted)))

    pub accepted_after : (follow s rule).state ≡ rule.after
    accepted_after = ap (λ (o : OutcomeOf Value State). o.state) accepted_is

    pub accepted_first : (follow s rule).answer.first ≡ rule.first
    accepted_first = ap (λ (o : OutcomeOf Value State). o.answer.first) accepted_is

  -- What holds of the state as it was and of the state on success holds of the state left.
  pub outcome_state : (P : State → Type 0) → P s → (first_refusal rule.needs ≡ 0 → P rule.after) → P (follow s rule).state
  outcome_state P before after = outcome_cases (λ o. P o.state) (λ n e. before) after

-- A refusal is that of a need that fails.
pub failing_need : (ns : List Need) → (first_refusal ns ≡ 0 → ⊥) → Memᴰ (false else first_refusal ns) ns
unfolding first_refusal
failing_need [] h = absurd (h refl)
failing_need ((true else n) ∷ rest) h = Memᴰ.tail (failing_need rest h)
failing_need ((false else n) ∷ rest) h = Memᴰ.head refl

-- ---- the lowest number

-- Two needs are equal: so are their tests and their numbers.
same_test : {s t : Bool} {k n : ℕ} → (s else k) ≡ (t else n) → s ≡ t
same_test e = cc

same_number : {s t : Bool} {k n : ℕ} → (s else k) ≡ (t else n) → k ≡ n
same_number e = cc

rising_least : (ns : List Need) (least : ℕ) → rising_from least ns ≡ true → {t : Bool} {k : ℕ} → Memᴰ (t else k) ns
    → least ≤ k
rising_least [] least r w = absurd (Memᴰ.not-nil w)
rising_least ((s else n) ∷ rest) least r {t} {k} w =
    let both = and-true (leb least n) (rising_from n rest) r in
    ⊎_elim (λ e. let q = same_number e in omega tests) (λ v. let b = rising_least rest n both.1 v in omega tests)
    (Memᴰ.cases_cons w)

pub lowest_refusal : (ns : List Need) (least : ℕ) → rising_from least ns ≡ true → {k : ℕ} → Memᴰ (false else k) ns
    → (least ≤ first_refusal ns) × (first_refusal ns ≤ k)
unfolding first_refusal
lowest_refusal [] least r w = absurd (Memᴰ.not-nil w)
lowest_refusal ((true else n) ∷ rest) least r {k} w =
    let both = and-true (leb least n) (rising_from n rest) r in
    ⊎_elim (λ e. let q = same_test e in let z : ◌≡◌ {A = ℕ} 0 1 = cc in absurd (omega arith))
    (λ v. let b = lowest_refusal rest n both.1 v in omega tests) (Memᴰ.cases_cons w)
lowest_refusal ((false else n) ∷ rest) least r {k} w =
    let both = and-true (leb least n) (rising_from n rest) r in
    (omega tests, ⊎_elim (λ e. let q = same_number e in omega arith) (λ v. rising_least rest n both.1 v) (Memᴰ.cases_cons w))

module _ {Value State : Type 0} {none : Value} (s : State) (rule : RuleOf none State) where
  pub refused : (Accepted (follow s rule) → ⊥) → Refused s rule (follow s rule)
  refused =
      outcome_cases s rule (λ o. (Accepted o → ⊥) → Refused s rule o)
      (λ n e h.
      let failing = failing_need rule.needs (λ passed. omega (arith, e, passed)) in
      record { number = rw e at failing; state = refl; first = refl; second = refl })
      (λ e h. absurd (h refl))

  pub lowest : rising_from 1 rule.needs ≡ true → {k : ℕ} → Memᴰ (false else k) rule.needs → Lowest (follow s rule) k
  lowest r {k} w =
      let both = lowest_refusal rule.needs 1 r w in
      let number = returned s rule in
      record { refused = omega arith; least = omega arith }

  -- Needs in rising order, and others after them, of whatever numbers: of the first the lowest wins, whatever comes after; and the others
  -- decide where all of the first hold (all_pass).
  pub lowest_of_first : (ns last : List Need) → rule.needs ≡ ns ++ last → rising_from 1 ns ≡ true → {k : ℕ}
      → Memᴰ (false else k) ns → Lowest (follow s rule) k
  lowest_of_first ns last is r {k} w =
      let both = lowest_refusal ns 1 r w in
      let first = refused_first ns last (λ passed. omega (arith, passed)) in
      let number = returned s rule in
      let same = ap first_refusal is in
      record { refused = omega arith; least = omega arith }

-- ---- which numbers may be returned

-- Each number of a list of needs is allowed.
abbrev pub all_allowed : (ℕ → Bool) → List Need → Bool
all_allowed allowed [] = true
all_allowed allowed ((t else n) ∷ rest) = allowed n && all_allowed allowed rest

-- Then so is what is returned.
pub refusal_allowed : (allowed : ℕ → Bool) (ns : List Need) → allowed 0 ≡ true → all_allowed allowed ns ≡ true
    → allowed (first_refusal ns) ≡ true
unfolding first_refusal
refusal_allowed allowed [] z e = z
refusal_allowed allowed ((true else n) ∷ rest) z e = refusal_allowed allowed rest z (and-true (allowed n) (all_allowed allowed rest) e).1
refusal_allowed allowed ((false else n) ∷ rest) z e = (and-true (allowed n) (all_allowed allowed rest) e).0
