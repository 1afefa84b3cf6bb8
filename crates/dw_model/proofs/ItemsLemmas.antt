-- Items one after the other: how many are asked for doesn't matter once there are enough.
use Rattle.std.proofs.Common.{◌≡◌, ◌⊎◌, inl, inr, ◌∷◌, ◌++◌, ◌∙◌, sym, subst, ℕ, zero, suc, ◌<◌, List, [], length, Option, Some, None, Result, Ok, Err, refl, ap, arith}
use Rattle.std.specs.Option.{option_map_or}
use Rattle.dw_model.specs.Results.{◌>>=◌}
use Rattle.std.proofs.lemmas.List.{append-nil, append_assoc}
use Rattle.dw_model.proofs.StepLemmas.{bind_ok, bind_err, ok_is, ok-err}
use Rattle.dw_model.specs.Reading.{onto, items_up_to, items, AreItems, FailsAfter, AreRead}

-- each item takes a byte at least
abbrev pub Advances : {S A E : Type 0} → (S → List ℕ) → (S → Result (Option A × S) E) → Type 0
Advances {S} {A} left next = (s : S) (item : A) (t : S) → next s ≡ Ok (Some item, t) → length (left t) < length (left s)

module _ {S A E : Type 0} (next : S → Result (Option A × S) E) where
  -- one item, where there is one, and then those that `others` gives
  abbrev pub turn : (S → Result (List A × S) E) → Result (Option A × S) E → Result (List A × S) E
  turn others found = found >>= λ x. option_map_or (λ item. onto item (others x.1)) x.0 (Ok ([], x.1))

  turn-same : (first second : S → Result (List A × S) E) (found : Result (Option A × S) E) → ((item : A) (t : S) → found ≡ Ok (Some item, t) → first t ≡ second t) → turn first found ≡ turn second found
  turn-same first second (Err e) same = refl
  turn-same first second (Ok (None, t)) same = refl
  turn-same first second (Ok (Some item, t)) same = ap (onto item) (same item t refl)

  enough : (left : S → List ℕ) → Advances left next → (m n : ℕ) (s : S) → length (left s) < m → length (left s) < n → items_up_to next m s ≡ items_up_to next n s
  unfolding items_up_to
  enough left advances zero n s h k = absurd (omega arith)
  enough left advances (suc m) zero s h k = absurd (omega arith)
  enough left advances (suc m) (suc n) s h k =
      turn-same (items_up_to next m) (items_up_to next n) (next s)
      (λ item t e. enough left advances m n t (omega (arith, advances s item t e)) (omega (arith, advances s item t e)))

  -- all items are the first, where there is one, and all items after it
  pub items-turn : (left : S → List ℕ) → Advances left next → (s : S) → items left next s ≡ turn (items left next) (next s)
  unfolding items_up_to
  items-turn left advances s =
      turn-same (items_up_to next (length (left s))) (items left next) (next s)
      (λ item t e. enough left advances (length (left s)) (suc (length (left t))) t (advances s item t e) (omega arith))

  -- ---- the items by the relation

  turn-read : (others : S → Result (List A × S) E) (found : Result (Option A × S) E) (all : List A) (u : S) → turn others found ≡ Ok (all, u) → ((found ≡ Ok (None, u)) × (all ≡ [])) ⊎ ((item : A) × (t : S) × (rest : List A) × (found ≡ Ok (Some item, t)) × (others t ≡ Ok (rest, u)) × (all ≡ item ∷ rest))
  turn-read others (Err e) all u h = absurd cc
  turn-read others (Ok (None, t)) all u h =
      let same = ok_is ([], t) (all, u) h in
      let last : t ≡ u = ap (λ (x : List A × S). x.1) same in
      inl (ap (λ (v : S). Ok (None, v)) last, sym (ap (λ (x : List A × S). x.0) same))
  turn-read others (Ok (Some item, t)) all u h =
      let b = bind_ok (others t) (λ rest. Ok (item ∷ rest.0, rest.1)) (all, u) h in
      let same = ok_is (item ∷ b.0.0, b.0.1) (all, u) b.2 in
      let last : b.0.1 ≡ u = ap (λ (x : List A × S). x.1) same in
      inr (item, t, b.0.0, refl, b.1 ∙ ap (λ (v : S). Ok (b.0.0, v)) last, sym (ap (λ (x : List A × S). x.0) same))

  turn-fails : (others : S → Result (List A × S) E) (found : Result (Option A × S) E) (e : E) → turn others found ≡ Err e → (found ≡ Err e) ⊎ ((item : A) × (t : S) × (found ≡ Ok (Some item, t)) × (others t ≡ Err e))
  turn-fails others (Err d) e h = let same : d ≡ e = cc in inl (ap Err same)
  turn-fails others (Ok (None, t)) e h = absurd cc
  turn-fails others (Ok (Some item, t)) e h =
      elim (bind_err (others t) (λ rest. Ok (item ∷ rest.0, rest.1)) e h) [ inl g ↦ inr (item, t, refl, g) | inr b ↦ absurd (ok-err (item ∷ b.0.0, b.0.1) e b.2) ]

  are-below : (left : S → List ℕ) → Advances left next → (n : ℕ) (s u : S) (all : List A) → length (left s) < n → items_up_to next n s ≡ Ok (all, u) → AreItems next s all u
  unfolding items_up_to
  are-below left advances zero s u all h e = absurd (omega arith)
  are-below left advances (suc n) s u all h e =
      elim (turn-read (items_up_to next n) (next s) all u e) [
        | inl x ↦ subst (λ all. AreItems next s all u) (sym x.1) x.0
        | inr x ↦ subst (λ all. AreItems next s all u) (sym x.5) (x.1, x.3, are-below left advances n x.1 u x.2 (omega (arith, advances s x.0 x.1 x.3, h)) x.4)
      ]

  fails-below : (left : S → List ℕ) → Advances left next → (n : ℕ) (s : S) (e : E) → length (left s) < n → items_up_to next n s ≡ Err e → (before : List A) × FailsAfter next s before e
  unfolding items_up_to
  fails-below left advances zero s e h f = absurd (omega arith)
  fails-below left advances (suc n) s e h f =
      elim (turn-fails (items_up_to next n) (next s) e f) [
        | inl x ↦ ([], x)
        | inr x ↦ (let later = fails-below left advances n x.1 e (omega (arith, advances s x.0 x.1 x.2, h)) x.3 in (x.0 ∷ later.0, (x.1, x.2, later.1)))
      ]

  pub are-read : (left : S → List ℕ) → Advances left next → (all : List A) (s u : S) → AreItems next s all u → items left next s ≡ Ok (all, u)
  are-read left advances [] s u h = rw (items-turn left advances s, h) refl
  are-read left advances (item ∷ all) s u h =
      rw (items-turn left advances s, h.1, are-read left advances all h.0 u h.2) refl

  pub fails-read : (left : S → List ℕ) → Advances left next → (before : List A) (s : S) (e : E) → FailsAfter next s before e → items left next s ≡ Err e
  fails-read left advances [] s e h = rw (items-turn left advances s, h) refl
  fails-read left advances (item ∷ before) s e h =
      rw (items-turn left advances s, h.1, fails-read left advances before h.0 e h.2) refl

  pub read_by : (left : S → List ℕ) → Advances left next → AreRead left next
  read_by left advances = record {
    read = λ s t all. (are-below left advances (suc (length (left s))) s t all (omega arith), are-read left advances all s t);
    fails = λ s e. (fails-below left advances (suc (length (left s))) s e (omega arith), λ f. fails-read left advances f.0 s e f.1);
  }

  -- ---- the items, as a loop reads them

  -- those that were read before, and then those that are still read
  abbrev pub with_front : List A → Result (List A × S) E → Result (List A × S) E
  with_front front read = read >>= λ x. Ok (front ++ x.0, x.1)

  pub with_front-nil : (read : Result (List A × S) E) → with_front [] read ≡ read
  with_front-nil (Ok x) = refl
  with_front-nil (Err e) = refl

  with_front-onto : (front : List A) (item : A) (read : Result (List A × S) E) → with_front front (onto item read) ≡ with_front (front ++ item ∷ []) read
  with_front-onto front item (Ok x) = ap (λ (xs : List A). Ok (xs, x.1)) (sym (append_assoc front (item ∷ []) x.0))
  with_front-onto front item (Err e) = refl

  pub loop_more : (left : S → List ℕ) → Advances left next → (front : List A) (item : A) (s t : S) (all : Result (List A × S) E) → next s ≡ Ok (Some item, t) → with_front front (items left next s) ≡ all → with_front (front ++ item ∷ []) (items left next t) ≡ all
  loop_more left advances front item s t all e so_far = grind (arith, items-turn, with_front-onto)

  pub loop_done : (left : S → List ℕ) → Advances left next → (front : List A) (s t : S) (all : Result (List A × S) E) → next s ≡ Ok (None, t) → with_front front (items left next s) ≡ all → all ≡ Ok (front, t)
  loop_done left advances front s t all e so_far = grind (arith, items-turn, append-nil)

  pub loop_fault : (left : S → List ℕ) → Advances left next → (front : List A) (s : S) (e : E) (all : Result (List A × S) E) → next s ≡ Err e → with_front front (items left next s) ≡ all → all ≡ Err e
  loop_fault left advances front s e all f so_far = sym so_far ∙ rw (items-turn left advances s, f) refl
