-- Runs put into their order one after another: each goes before the first that comes later (insert_run, sorted). The sorted list has the same runs
-- (sorted-member, member-sorted, sorted-length), is in order (sorted-in-order, sorted-rising) and may be moved (sorted-moved); runs put behind others
-- (sorted-behind); where a run goes (insert-at).
use Rattle.std.specs.Prelude.{◌≡◌, refl, ◌⊎◌, Bool, true, false, ◌&&◌, ◌||◌, ℕ, zero, suc, ◌+◌, ◌<◌, length, take, drop, get_or, ltb, eqb}
use Rattle.std.proofs.Common.{ap, sym, subst, ◌∙◌, inl, inr, ⊎_elim, arith}
use mathlib.Core.List.Memᴰ
use mathlib.Core.List.{List, [], ◌∷◌, ◌++◌, map, append-nil, Memᴰ}
use Rattle.std.proofs.Math.Decide.{dec_lt}
use Rattle.words.specs.Runs.{Triple, moved_run}
use Rattle.theory.specs.RunStatements.{Earlier, Rising, none, more}
use Rattle.theory.specs.Repetitions.RunsAre.{earlier-irrefl, earlier-asym, earlier-trans}
use Rattle.theory.specs.Orders.Decisions.{Decides, holds, fails, leb-test, eqb-test, decides-map, decides-unique, true-decides, false-decides}

-- ---- which comes earlier

abbrev pub is_earlier : Triple → Triple → Bool
is_earlier r q = ltb r.0 q.0 || (eqb r.0 q.0 && ltb r.2 q.2)

pub earlier-test : (r q : Triple) → Decides (Earlier r q) (is_earlier r q)
earlier-test r q = go (leb-test (suc r.0) q.0) (eqb-test r.0 q.0) (leb-test (suc r.2) q.2)
  where
    go : {a b c : Bool} → Decides (r.0 < q.0) a → Decides (r.0 ≡ q.0) b → Decides (r.2 < q.2) c → Decides (Earlier r q) (a || (b && c))
    go (holds h) e l = holds (inl h)
    go (fails n) (holds e) (holds l) = holds (inr (e, l))
    go (fails n) (holds e) (fails m) = fails (⊎_elim n (λ x. m x.1))
    go (fails n) (fails m) l = fails (⊎_elim n (λ x. m x.0))

-- what comes before p comes before all that do not come before p
pub earlier-not : (r p q : Triple) → Earlier r p → ¬ Earlier q p → Earlier r q
earlier-not r p q (inl h) n = let l : ¬ (q.0 < p.0) = λ k. n (inl k) in inl (omega arith)
earlier-not r p q (inr h) n = go (dec_lt r.0 q.0)
  where
    least : ¬ (q.0 < p.0)
    least k = n (inl k)

    go : Dec (r.0 < q.0) → Earlier r q
    go (yes k) = inl k
    go (no k) =
        let e : q.0 ≡ p.0 = omega (arith, least, h.0) in
        let m : ¬ (q.2 < p.2) = λ l. n (inr (e, l)) in
        inr (h.0 ∙ sym e, omega (arith, h.1))

pub earlier-moved : (i : ℕ) (r q : Triple) → is_earlier (moved_run i r) (moved_run i q) ≡ is_earlier r q
earlier-moved i r q = decides-unique (earlier-test (moved_run i r) (moved_run i q)) (decides-map there back (earlier-test r q))
  where
    there : Earlier r q → Earlier (moved_run i r) (moved_run i q)
    there (inl h) = inl (omega arith)
    there (inr h) = inr (ap (λ (n : ℕ). i + n) h.0, h.1)

    back : Earlier (moved_run i r) (moved_run i q) → Earlier r q
    back (inl h) = inl (omega arith)
    back (inr h) = inr (omega (arith, h.0), h.1)

-- ---- one run more

-- before the first that comes later
unfoldable pub insert_run : Triple → List Triple → List Triple
insert_run r [] = r ∷ []
insert_run r (q ∷ qs) = elim (is_earlier r q) [ true ↦ r ∷ q ∷ qs | false ↦ q ∷ insert_run r qs ]

pub insert-before : (r q : Triple) (qs : List Triple) → Earlier r q → insert_run r (q ∷ qs) ≡ r ∷ q ∷ qs
unfolding insert_run
insert-before r q qs h = rw (insert_run, true-decides (earlier-test r q) h)

pub insert-after : (r q : Triple) (qs : List Triple) → ¬ Earlier r q → insert_run r (q ∷ qs) ≡ q ∷ insert_run r qs
unfolding insert_run
insert-after r q qs h = rw (insert_run, false-decides (earlier-test r q) h)

pub insert-length : (r : Triple) (qs : List Triple) → length (insert_run r qs) ≡ suc (length qs)
unfolding insert_run
insert-length r [] = refl
insert-length r (q ∷ qs) = go (is_earlier r q) (insert-length r qs)
  where
    go : (t : Bool) → length (insert_run r qs) ≡ suc (length qs)
        → length {A = Triple} (elim t [ true ↦ r ∷ q ∷ qs | false ↦ q ∷ insert_run r qs ]) ≡ suc (length (q ∷ qs))
    go true e = refl
    go false e = ap suc e

pub insert-member : {x : Triple} (r : Triple) (qs : List Triple) → Memᴰ x (insert_run r qs) → (x ≡ r) ⊎ Memᴰ x qs
unfolding insert_run
insert-member r [] m = Memᴰ.cases_cons m
insert-member {x} r (q ∷ qs) m = go (earlier-test r q) m (insert-member r qs)
  where
    later : (x ≡ r) ⊎ Memᴰ x qs → (x ≡ r) ⊎ Memᴰ x (q ∷ qs)
    later (inl e) = inl e
    later (inr n) = inr (Memᴰ.tail n)

    go : {t : Bool} → Decides (Earlier r q) t → Memᴰ x (elim t [ true ↦ r ∷ q ∷ qs | false ↦ q ∷ insert_run r qs ])
        → (Memᴰ x (insert_run r qs) → (x ≡ r) ⊎ Memᴰ x qs) → (x ≡ r) ⊎ Memᴰ x (q ∷ qs)
    go (holds h) m next = Memᴰ.cases_cons m
    go (fails h) m next = ⊎_elim (λ e. inr (Memᴰ.head e)) (λ n. later (next n)) (Memᴰ.cases_cons m)

pub member-insert : {x : Triple} (r : Triple) (qs : List Triple) → (x ≡ r) ⊎ Memᴰ x qs → Memᴰ x (insert_run r qs)
unfolding insert_run
member-insert r [] m = ⊎_elim (λ e. Memᴰ.head e) (λ n. Memᴰ.tail n) m
member-insert {x} r (q ∷ qs) m = go (earlier-test r q) (member-insert r qs)
  where
    go : {t : Bool} → Decides (Earlier r q) t → ((x ≡ r) ⊎ Memᴰ x qs → Memᴰ x (insert_run r qs))
        → Memᴰ x (elim t [ true ↦ r ∷ q ∷ qs | false ↦ q ∷ insert_run r qs ])
    go (holds h) next = ⊎_elim (λ e. Memᴰ.head e) (λ n. Memᴰ.tail n) m
    go (fails h) next =
        ⊎_elim (λ e. Memᴰ.tail (next (inl e)))
        (λ n. ⊎_elim (λ e. Memᴰ.head e) (λ n'. Memᴰ.tail (next (inr n'))) (Memᴰ.cases_cons n)) m

pub insert-moved : (i : ℕ) (r : Triple) (qs : List Triple) → insert_run (moved_run i r) (map (moved_run i) qs) ≡ map (moved_run i) (insert_run r qs)
unfolding insert_run
insert-moved i r [] = refl
insert-moved i r (q ∷ qs) = rw (insert_run, earlier-moved i r q) (go (is_earlier r q) (insert-moved i r qs))
  where
    go : (t : Bool) → insert_run (moved_run i r) (map (moved_run i) qs) ≡ map (moved_run i) (insert_run r qs)
        → (elim t [ true ↦ moved_run i r ∷ map (moved_run i) (q ∷ qs) | false ↦ moved_run i q ∷ insert_run (moved_run i r) (map (moved_run i) qs) ])
        ≡ map (moved_run i) (elim t [ true ↦ r ∷ q ∷ qs | false ↦ q ∷ insert_run r qs ])
    go true e = refl
    go false e = ap (λ (rs : List Triple). moved_run i q ∷ rs) e

-- ---- in order

-- none comes earlier than one before it
abbrev pub InOrder : List Triple → Type 0
InOrder rs = Rising (λ r q. ¬ Earlier q r) rs

pub insert-in-order : (r : Triple) (qs : List Triple) → InOrder qs → InOrder (insert_run r qs)
unfolding insert_run
insert-in-order r [] none = more (λ y m. absurd (Memᴰ.not-nil m)) none
insert-in-order r (q ∷ qs) (more first rest) = go (earlier-test r q) (insert-in-order r qs rest)
  where
    go : {t : Bool} → Decides (Earlier r q) t → InOrder (insert_run r qs) → InOrder (elim t [ true ↦ r ∷ q ∷ qs | false ↦ q ∷ insert_run r qs ])
    go (holds h) next = more (λ y m k. ⊎_elim
        (λ e. earlier-irrefl q (earlier-trans q r q (subst (λ (t : Triple). Earlier t r) e k) h))
        (λ n. first y n (earlier-trans y r q k h)) (Memᴰ.cases_cons m)) (more first rest)
    go (fails h) next = more (λ y m k. ⊎_elim (λ e. h (subst (λ (t : Triple). Earlier t q) e k)) (λ n. first y n k) (insert-member r qs m)) next

-- of any two, one comes earlier
abbrev pub Apart : Triple → Triple → Type 0
Apart r q = Earlier r q ⊎ Earlier q r

pub insert-rising : (r : Triple) (qs : List Triple) → Rising Earlier qs → ((q : Triple) → Memᴰ q qs → Apart r q) → Rising Earlier (insert_run r qs)
unfolding insert_run
insert-rising r [] none a = more (λ y m. absurd (Memᴰ.not-nil m)) none
insert-rising r (q ∷ qs) (more first rest) a = go (earlier-test r q) (insert-rising r qs rest (λ y m. a y (Memᴰ.tail m)))
  where
    after : ¬ Earlier r q → Earlier q r
    after h = ⊎_elim (λ k. absurd (h k)) (λ k. k) (a q (Memᴰ.head refl))

    go : {t : Bool} → Decides (Earlier r q) t → Rising Earlier (insert_run r qs) → Rising Earlier (elim t [ true ↦ r ∷ q ∷ qs | false ↦ q ∷ insert_run r qs ])
    go (holds h) next = more (λ y m. ⊎_elim
        (λ e. subst (λ (t : Triple). Earlier r t) (sym e) h)
        (λ n. earlier-trans r q y h (first y n)) (Memᴰ.cases_cons m)) (more first rest)
    go (fails h) next = more (λ y m. ⊎_elim (λ e. subst (λ (t : Triple). Earlier q t) (sym e) (after h)) (λ n. first y n) (insert-member r qs m)) next

-- ---- all of a list, one after another

unfoldable pub sort_into : List Triple → List Triple → List Triple
unfolding insert_run
sort_into qs [] = qs
sort_into qs (r ∷ rs) = sort_into (insert_run r qs) rs

unfoldable pub sorted : List Triple → List Triple
unfolding sort_into
sorted rs = sort_into [] rs

pub sort-append : (qs rs ts : List Triple) → sort_into qs (rs ++ ts) ≡ sort_into (sort_into qs rs) ts
unfolding sort_into
sort-append qs [] ts = refl
sort-append qs (r ∷ rs) ts = sort-append (insert_run r qs) rs ts

pub sort-none : (qs : List Triple) → sort_into qs [] ≡ qs
unfolding sort_into
sort-none qs = refl

pub sort-one : (qs : List Triple) (r : Triple) → sort_into qs (r ∷ []) ≡ insert_run r qs
unfolding sort_into
sort-one qs r = refl

pub sort-length : (qs rs : List Triple) → length (sort_into qs rs) ≡ length qs + length rs
unfolding sort_into
sort-length qs [] = omega arith
sort-length qs (r ∷ rs) = sort-length (insert_run r qs) rs ∙ omega (arith, insert-length r qs)

pub sorted-length : (rs : List Triple) → length (sorted rs) ≡ length rs
unfolding sorted
sorted-length rs = sort-length [] rs ∙ omega arith

sort-member : {x : Triple} (qs rs : List Triple) → Memᴰ x (sort_into qs rs) → Memᴰ x qs ⊎ Memᴰ x rs
unfolding sort_into
sort-member qs [] m = inl m
sort-member {x} qs (r ∷ rs) m = go (sort-member (insert_run r qs) rs m)
  where
    go : Memᴰ x (insert_run r qs) ⊎ Memᴰ x rs → Memᴰ x qs ⊎ Memᴰ x (r ∷ rs)
    go (inl n) = ⊎_elim (λ e. inr (Memᴰ.head e)) (λ k. inl k) (insert-member r qs n)
    go (inr n) = inr (Memᴰ.tail n)

member-sort : {x : Triple} (qs rs : List Triple) → Memᴰ x qs ⊎ Memᴰ x rs → Memᴰ x (sort_into qs rs)
unfolding sort_into
member-sort qs [] m = ⊎_elim (λ n. n) (λ n. absurd (Memᴰ.not-nil n)) m
member-sort {x} qs (r ∷ rs) m = member-sort (insert_run r qs) rs (go m)
  where
    go : Memᴰ x qs ⊎ Memᴰ x (r ∷ rs) → Memᴰ x (insert_run r qs) ⊎ Memᴰ x rs
    go (inl n) = inl (member-insert r qs (inr n))
    go (inr n) = ⊎_elim (λ e. inl (member-insert r qs (inl e))) (λ k. inr k) (Memᴰ.cases_cons n)

pub sorted-member : {x : Triple} (rs : List Triple) → Memᴰ x (sorted rs) → Memᴰ x rs
unfolding sorted
sorted-member rs m = ⊎_elim (λ n. absurd (Memᴰ.not-nil n)) (λ n. n) (sort-member [] rs m)

pub member-sorted : {x : Triple} (rs : List Triple) → Memᴰ x rs → Memᴰ x (sorted rs)
unfolding sorted
member-sorted rs m = member-sort [] rs (inr m)

pub sort-in-order : (qs rs : List Triple) → InOrder qs → InOrder (sort_into qs rs)
unfolding sort_into
sort-in-order qs [] o = o
sort-in-order qs (r ∷ rs) o = sort-in-order (insert_run r qs) rs (insert-in-order r qs o)

pub sorted-in-order : (rs : List Triple) → InOrder (sorted rs)
unfolding sorted
sorted-in-order rs = sort-in-order [] rs none

sort-rising : (qs rs : List Triple) → Rising Earlier qs → ((r q : Triple) → Memᴰ r rs → Memᴰ q qs → Apart r q) → Rising Apart rs
    → Rising Earlier (sort_into qs rs)
unfolding sort_into
sort-rising qs [] o a d = o
sort-rising qs (r ∷ rs) o a (more first rest) =
    sort-rising (insert_run r qs) rs (insert-rising r qs o (λ q m. a r q (Memᴰ.head refl) m)) apart rest
  where
    swap : (x : Triple) → Apart r x → Apart x r
    swap x (inl h) = inr h
    swap x (inr h) = inl h

    apart : (x q : Triple) → Memᴰ x rs → Memᴰ q (insert_run r qs) → Apart x q
    apart x q m n = ⊎_elim
        (λ e. subst (λ (t : Triple). Apart x t) (sym e) (swap x (first x m)))
        (λ k. a x q (Memᴰ.tail m) k) (insert-member r qs n)

pub sorted-rising : (rs : List Triple) → Rising Apart rs → Rising Earlier (sorted rs)
unfolding sorted
sorted-rising rs d = sort-rising [] rs none (λ r q m n. absurd (Memᴰ.not-nil n)) d

sort-moved : (i : ℕ) (qs rs : List Triple) → sort_into (map (moved_run i) qs) (map (moved_run i) rs) ≡ map (moved_run i) (sort_into qs rs)
unfolding sort_into
sort-moved i qs [] = refl
sort-moved i qs (r ∷ rs) = ap (λ (t : List Triple). sort_into t (map (moved_run i) rs)) (insert-moved i r qs) ∙ sort-moved i (insert_run r qs) rs

pub sorted-moved : (i : ℕ) (rs : List Triple) → sorted (map (moved_run i) rs) ≡ map (moved_run i) (sorted rs)
unfolding sorted
sorted-moved i rs = sort-moved i [] rs

-- ---- behind runs that do not come later

pub insert-past : (r : Triple) (ds qs : List Triple) → ((d : Triple) → Memᴰ d ds → ¬ Earlier r d) → insert_run r (ds ++ qs) ≡ ds ++ insert_run r qs
insert-past r [] qs h = refl
insert-past r (d ∷ ds) qs h =
    insert-after r d (ds ++ qs) (h d (Memᴰ.head refl)) ∙ ap (λ (t : List Triple). d ∷ t) (insert-past r ds qs (λ x m. h x (Memᴰ.tail m)))

pub sort-past : (ds qs rs : List Triple) → ((r d : Triple) → Memᴰ r rs → Memᴰ d ds → ¬ Earlier r d) → sort_into (ds ++ qs) rs ≡ ds ++ sort_into qs rs
unfolding sort_into
sort-past ds qs [] h = refl
sort-past ds qs (r ∷ rs) h =
    ap (λ (t : List Triple). sort_into t rs) (insert-past r ds qs (λ d m. h r d (Memᴰ.head refl) m))
    ∙ sort-past ds (insert_run r qs) rs (λ x d m n. h x d (Memᴰ.tail m) n)

-- where all begin earlier
pub sorted-behind : (ds rs : List Triple) → ((r d : Triple) → Memᴰ r rs → Memᴰ d ds → d.0 < r.0) → sort_into ds rs ≡ ds ++ sorted rs
unfolding sorted
sorted-behind ds rs h =
    ap (λ (t : List Triple). sort_into t rs) (sym (append-nil ds)) ∙ sort-past ds [] rs (λ r d m n. earlier-asym d r (inl (h r d m n)))

-- ---- where a run goes

-- the triple at place k of a list
abbrev pub run_at : List Triple → ℕ → Triple
run_at rs k = get_or rs k (0, 0, 0)

at-member : (rs : List Triple) (k : ℕ) → k < length rs → Memᴰ (run_at rs k) rs
at-member [] k l = absurd (omega arith)
at-member (r ∷ rs) zero l = Memᴰ.head refl
at-member (r ∷ rs) (suc k) l = Memᴰ.tail (at-member rs k (omega arith))

-- past the run at place k and all before it, if it does not come before that one
pub insert-at : (r : Triple) (rs : List Triple) (k : ℕ) → k < length rs → InOrder rs → ¬ Earlier r (run_at rs k)
    → insert_run r rs ≡ take (suc k) rs ++ insert_run r (drop (suc k) rs)
insert-at r [] k l o n = absurd (omega arith)
insert-at r (q ∷ qs) zero l o n = insert-after r q qs n
insert-at r (q ∷ qs) (suc k) l (more first rest) n =
    insert-after r q qs (λ h. n (earlier-not r q (run_at qs k) h (first (run_at qs k) (at-member qs k (omega arith)))))
    ∙ ap (λ (t : List Triple). q ∷ t) (insert-at r qs k (omega arith) rest n)
