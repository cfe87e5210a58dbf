-- The atoms that a loop writes, one after another.
use Rattle.std.proofs.Common.{◌≡◌, ℕ, suc, ◌+◌, Bool, true, false, cond, List, [], ◌∷◌, ◌++◌, map, sym, refl, ap, ◌∙◌, add-one}
use Rattle.std.proofs.lemmas.List.{append_assoc, append-nil, map_push}
use Rattle.table.specs.Entries.{coded}
use Rattle.table.specs.Reading.{Entry}
use Rattle.table.specs.declared.arrays.Head.{Head}
use Rattle.model.specs.Lists.{below, keep}
use Rattle.model.specs.Meaning.{State}
use Rattle.model.specs.Books.{Start, is_always_true}
use Rattle.model.specs.Settling.{is_unsettled}
use Rattle.runs.proofs.Walks.{keep_append}
use Rattle.runs.specs.Settled.{meaning, at}
use Rattle.runs.specs.declared.verdict.Verdict.{Verdict}
use Rattle.instantiate.specs.Verdicts.{starts_of, always_of}

none_below : (p : ℕ → Bool) → keep p (below 0) ≡ []
unfolding below
none_below p = refl

suc_below : (p : ℕ → Bool) (n : ℕ) → keep p (below (suc n)) ≡ keep p (below n) ++ cond (p n) (n ∷ []) []
unfolding below
suc_below p n = keep_append p (below n) (n ∷ [])

next_below : (p : ℕ → Bool) (n : ℕ) (b : Bool) → p n ≡ b → keep p (below (n + 1)) ≡ keep p (below n) ++ cond b (n ∷ []) []
next_below p n b e = ap (λ m. keep p (below m)) (add-one n) ∙ suc_below p n ∙ ap (λ (c : Bool). keep p (below n) ++ cond c (n ∷ []) []) e

passed_below : (p : ℕ → Bool) (n : ℕ) → p n ≡ false → keep p (below (n + 1)) ≡ keep p (below n)
passed_below p n e = next_below p n false e ∙ append-nil (keep p (below n))

-- The relevant atoms.

pub no_starts : (s : State) (vs : List Verdict) → starts_of s vs 0 ≡ []
no_starts s vs = ap (map (λ k. record { atom = k; starts = s k })) (none_below (λ k. is_unsettled (meaning (at vs k))))

pub one_start : (s : State) (vs : List Verdict) (n : ℕ) → is_unsettled (meaning (at vs n)) ≡ true → starts_of s vs (n + 1) ≡ starts_of s vs n ++ record { atom = n; starts = s n } ∷ []
one_start s vs n e =
    let p : ℕ → Bool = λ k. is_unsettled (meaning (at vs k)) in
    let f : ℕ → Start = λ k. record { atom = k; starts = s k } in
    ap (map f) (next_below p n true e) ∙ map_push f (keep p (below n)) n

pub no_start : (s : State) (vs : List Verdict) (n : ℕ) → is_unsettled (meaning (at vs n)) ≡ false → starts_of s vs (n + 1) ≡ starts_of s vs n
no_start s vs n e = ap (map (λ k. record { atom = k; starts = s k })) (passed_below (λ k. is_unsettled (meaning (at vs k))) n e)

-- Those that are always true.

pub none_always : (vs : List Verdict) → always_of vs 0 ≡ []
none_always vs = none_below (λ k. is_always_true (meaning (at vs k)))

pub one_always : (vs : List Verdict) (n : ℕ) → is_always_true (meaning (at vs n)) ≡ true → always_of vs (n + 1) ≡ always_of vs n ++ n ∷ []
one_always vs n e = next_below (λ k. is_always_true (meaning (at vs k))) n true e

pub not_always : (vs : List Verdict) (n : ℕ) → is_always_true (meaning (at vs n)) ≡ false → always_of vs (n + 1) ≡ always_of vs n
not_always vs n e = passed_below (λ k. is_always_true (meaning (at vs k))) n e

-- What was written, with one entry more.
pub one_written : {A : Type 0} (f : A → Entry) (start : List Entry) (xs ys : List A) (x : A) (before after : List Head) (h : Head) → after ≡ before ++ h ∷ []
    → map coded before ≡ start ++ map f xs → ys ≡ xs ++ x ∷ [] → coded h ≡ f x → map coded after ≡ start ++ map f ys
one_written f start xs ys x before after h pushed was more here =
    ap (map coded) pushed ∙ map_push coded before h ∙ ap (λ es. es ++ coded h ∷ []) was
    ∙ append_assoc start (map f xs) (coded h ∷ [])
    ∙ ap (λ e. start ++ (map f xs ++ e ∷ [])) here
    ∙ ap (λ es. start ++ es) (sym (ap (map f) more ∙ map_push f xs x))

pub same_written : {A : Type 0} (f : A → Entry) (start : List Entry) (xs ys : List A) (before after : List Head) → after ≡ before
    → map coded before ≡ start ++ map f xs → ys ≡ xs → map coded after ≡ start ++ map f ys
same_written f start xs ys before after pushed was more = ap (map coded) pushed ∙ was ∙ ap (λ es. start ++ map f es) (sym more)

pub none_written : {A : Type 0} (f : A → Entry) (start : List Entry) (xs : List A) → xs ≡ [] → start ≡ start ++ map f xs
none_written f start xs e = sym (ap (λ es. start ++ map f es) e ∙ append-nil start)
