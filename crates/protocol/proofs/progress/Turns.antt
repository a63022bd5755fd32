-- Of f+1 views in a row one is led by one of f+1 replicas: their leaders are f+1 different replicas too, and quorums meet.
use Prim.Native.Nat.{ℕ, zero, suc, ◌+◌, ◌-◌, ◌%◌, ◌≤◌, ◌<◌}
use mathlib.Core.Path.{◌≡◌, refl, sym, ap, ◌∙◌}
use mathlib.Core.Bool.{true, false, cond}
use mathlib.Core.Logic.{◌≢◌}
use mathlib.Core.List.{List, [], ◌∷◌, map}
use native.Mathlib.Nat.{mod-lt, mod-eq_of_lt, mod-add-mod, mod-eq-sub-mod}
use native.Mathlib.Omega.{arith}
use lib.ListN.{length, length-map}
use lib.Dec.{ltb, eqb}
use Rattle.protocol.specs.Memory.{Memory, replica_count, fault_bound}
use Rattle.protocol.specs.Quorum.{every, is_quorum_size, contains, distinct}
use Rattle.protocol.specs.Theorems.{below}
use Rattle.protocol.specs.WayOn.{leader_of, can_enter, has_room, can_all_enter, can_decide, ViewsSuffice}
use Rattle.protocol.proofs.logic.Booleans.{tests, by-test, by_cond, and-true, true_and, each, all-hold}
use Rattle.protocol.proofs.agreement.Meeting.{AllBelow, Quorum, meet}
use Rattle.protocol.proofs.progress.Each.{every_member, all-below}

-- ---- turns

-- The replica whose turn it is so many views after one: it goes up by one a view, and begins again after the last.
turn_after : (v n k : ℕ) → k < n
    → (v + k) % n ≡ cond (ltb (v % n + k) n) (v % n + k) (v % n + k - n)
turn_after v n k l =
    let small = mod-lt v {m = n} (omega arith) in
    sym (mod-add-mod v n k)
    ∙ by_cond (λ (x : ℕ). (v % n + k) % n ≡ x) (ltb (v % n + k) n) (λ e. mod-eq_of_lt (omega tests))
    (λ e. mod-eq-sub-mod (omega tests) ∙ mod-eq_of_lt (omega tests))

-- Fewer than n views apart, it is another's.
turns_differ : (v n j k : ℕ) → j < k → k < n → (v + j) % n ≢ (v + k) % n
turns_differ v n j k l below same =
    let small = mod-lt v {m = n} (omega arith) in
    let first = turn_after v n j (omega arith) in
    let second = turn_after v n k below in
    by-test (ltb (v % n + j) n)
    (λ e.
    by-test (ltb (v % n + k) n) (λ f. let a = rw e at first in let b = rw f at second in omega tests)
    (λ f. let a = rw e at first in let b = rw f at second in omega tests))
    (λ e.
    by-test (ltb (v % n + k) n) (λ f. omega tests)
    (λ f. let a = rw e at first in let b = rw f at second in omega tests))

-- ---- lists of a function's first values

-- No value before k is x, and then none of the list is.
none_among : (turn : ℕ → ℕ) (x k : ℕ) → ((j : ℕ) → j < k → turn j ≢ x) → contains x (map turn (below k)) ≡ false
unfolding contains
none_among turn x zero other = refl
none_among turn x (suc k) other =
    let here : eqb x (turn k) ≡ false = (let q = other k (omega arith) in omega tests) in
    rw (here, none_among turn x k (λ j l. other j (omega arith))) refl

record ValueAt (turn : ℕ → ℕ) (x k : ℕ) : Type 0 where
  at : ℕ
  before : at < k
  value : turn at ≡ x

value_at : (turn : ℕ → ℕ) (x k : ℕ) → contains x (map turn (below k)) ≡ true → ValueAt turn x k
unfolding contains
value_at turn x zero e = let z : ◌≡◌ {A = ℕ} 0 1 = cc in absurd (omega arith)
value_at turn x (suc k) e =
    by-test (eqb x (turn k)) (λ same. record { at = k; before = omega arith; value = omega tests })
    (λ other.
    let rest = value_at turn x k (rw other at e) in
    record { at = rest.at; before = (let l = rest.before in omega arith); value = rest.value })

-- Different values, each below n.
values_differ : (turn : ℕ → ℕ) (k : ℕ) → ((i j : ℕ) → i < j → j < k → turn i ≢ turn j) → distinct (map turn (below k)) ≡ true
unfolding distinct
values_differ turn zero differ = refl
values_differ turn (suc k) differ =
    rw (none_among turn (turn k) k (λ j l. differ j k l (omega arith)))
    (values_differ turn k (λ i j a b. differ i j a (omega arith)))

values_below : (turn : ℕ → ℕ) (n k : ℕ) → ((j : ℕ) → turn j < n) → AllBelow n (map turn (below k))
values_below turn n zero small = tt
values_below turn n (suc k) small = (small k, values_below turn n k small)

length_below : (k : ℕ) → length (below k) ≡ k
length_below zero = refl
length_below (suc k) = ap suc (length_below k)

-- ---- a view that is led by one of them

abbrev turn : ℕ → ℕ → ℕ → ℕ
turn f v k = (v + k) % replica_count f

-- The leaders of the f+1 views after v.
leaders : (f v : ℕ) → Quorum f (map (turn f v) (below (f + 1)))
leaders f v =
    record {
      size = length-map (below (f + 1)) (turn f v) ∙ length_below (f + 1);
      different = values_differ (turn f v) (f + 1) (λ i j l few. turns_differ v (replica_count f) i j l (omega arith));
      replicas = values_below (turn f v) (replica_count f) (f + 1) (λ j. mod-lt (v + j) {m = replica_count f} (omega arith));
    }

led_by : (f v k member : ℕ) (replicas : List ℕ) → turn f v k ≡ member → contains member replicas ≡ true
    → contains (leader_of f (v + (k + 1))) replicas ≡ true
led_by f v k member replicas e among = let before : v + (k + 1) - 1 ≡ v + k = omega arith in rw (before, e) among

record LedAt (f v : ℕ) (replicas : List ℕ) : Type 0 where
  at : ℕ
  before : at < f + 1
  led : contains (leader_of f (v + (at + 1))) replicas ≡ true

some_led : (f v : ℕ) (replicas : List ℕ) → Quorum f replicas → LedAt f v replicas
some_led f v replicas chosen =
    let shared = meet f (map (turn f v) (below (f + 1))) replicas (leaders f v) chosen in
    let its = value_at (turn f v) shared.member (f + 1) shared.left in
    record { at = its.at; before = its.before; led = led_by f v its.at shared.member replicas its.value shared.right }

-- ---- the statement

-- Who can enter two views can enter those between.
between : (m : Memory) (first w last : ℕ) (replicas : List ℕ) → first ≤ w → w ≤ last → every (can_enter m first) replicas ≡ true
    → every (can_enter m last) replicas ≡ true → every (can_enter m w) replicas ≡ true
unfolding every can_enter
between m first w last [] low high a b = refl
between m first w last (i ∷ rest) low high a b =
    let early = and-true (can_enter m first i) (every (can_enter m first) rest) a in
    let late = and-true (can_enter m last i) (every (can_enter m last) rest) b in
    let x = each _ early.0 in
    let y = each _ late.0 in
    true_and (all-hold _ (omega tests)) (between m first w last rest low high early.1 late.1)

can-decide : (m : Memory) (replicas : List ℕ) (w : ℕ) → is_quorum_size m replicas ≡ true → distinct replicas ≡ true
    → every (can_enter m w) replicas ≡ true → contains (leader_of (fault_bound m) w) replicas ≡ true → has_room m ≡ true
    → can_decide m replicas w ≡ true
unfolding can_all_enter can_decide
can-decide m replicas w size different enter leading room =
    all-hold _ (all-hold _ (size, (different, (enter, tt))), (leading, (room, tt)))

pub views-suffice : ViewsSuffice
unfolding ViewsSuffice can_all_enter can_enter
views-suffice m replicas v first last room =
    let f = fault_bound m in
    let a = each _ first in
    let b = each _ last in
    let enters = every_member (can_enter m (v + 1)) replicas a.1.1.0 in
    let led =
    some_led f v replicas
    (record {
      size = omega tests;
      different = a.1.0;
      replicas = all-below (replica_count f) replicas (λ j among. let t = each _ (enters j among) in omega tests);
    }) in
    let early = led.before in
    let w = v + (led.at + 1) in
    record {
      view = w;
      above = omega arith;
      within = omega arith;
      decides =
          can-decide m replicas w a.0 a.1.0
          (between m (v + 1) w (v + (f + 1)) replicas (omega arith) (omega arith) a.1.1.0 b.1.1.0) led.led room;
    }
