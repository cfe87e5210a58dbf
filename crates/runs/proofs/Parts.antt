-- Junctions and negations whose parts are simplified one after the other.
use Rattle.std.proofs.Common.{◌≡◌, ℕ, suc, ◌+◌, ◌<◌, Bool, true, false, not, cond, ◌||◌, eqb, List, [], ◌∷◌, ◌++◌, map, length, take, drop, Option, Some, None, is_some, sym, refl, ap, ◌∙◌, ap₂, subst, append_assoc, arith}
use Rattle.std.proofs.lemmas.List.{append-nil, length-append, length-map, length_push, map-append, take-map, drop-map, take_at, drop_at}
use mathlib.Core.Bool.{beq}
use Rattle.std.specs.Option.{option_eq}
use Rattle.std.proofs.lemmas.Bool.Decides.{nat_tests}
use Rattle.table.specs.Entries.{coded}
use Rattle.table.specs.Reading.{Entry, entry}
use Rattle.table.specs.declared.arrays.Head.{Head}
use Rattle.model.specs.Meaning.{empty}
use Rattle.model.specs.Trees.{Junction, all, any}
use Rattle.model.specs.Settling.{Ground, known, fact, negated, group, Grounds, nil, cons, is, opposite, decided, left, grouped, combine}
use Rattle.model.proofs.Values.{clash, clash', taken, passed}
use Rattle.book_theorems.specs.Writes.{count_grounds, junction_code, write_ground, write_grounds}
use Rattle.runs.specs.Settled.{truth_of, body}
use Rattle.runs.specs.Closing.{kind_of, closed_truth, closed_entries, turned_truth, turned_entries}
use Rattle.runs.specs.Left.{Left}

-- a formula that is neither TRUE nor FALSE is written whole
open_body : (g : Ground) → truth_of g ≡ None → body g ≡ write_ground g
open_body (known b) e = cc
open_body (fact j) e = refl
open_body (negated g) e = refl
open_body (group j gs) e = refl

-- and no junction takes it for one of them
open_is : (b : Bool) (g : Ground) → truth_of g ≡ None → is b g ≡ false
open_is b (known c) e = cc
open_is b (fact j) e = refl
open_is b (negated g) e = refl
open_is b (group j gs) e = refl

-- a formula that is TRUE or FALSE
told_known : (b : Bool) (g : Ground) → truth_of g ≡ Some b → g ≡ known b
told_known b (known c) e = cc
told_known b (fact j) e = cc
told_known b (negated g) e = cc
told_known b (group j gs) e = cc

opposite_open : (g : Ground) → truth_of g ≡ None → opposite g ≡ negated g
opposite_open (known b) e = cc
opposite_open (fact j) e = refl
opposite_open (negated g) e = refl
opposite_open (group j gs) e = refl

-- none of them is TRUE or FALSE
abbrev AllOpen : Grounds → Type 0
AllOpen nil = Unit {0}
AllOpen (cons g gs) = (truth_of g ≡ None) × AllOpen gs

-- where no part decides, none that is left is TRUE or FALSE
left_open : (j : Junction) (gs : Grounds) → decided j gs ≡ false → AllOpen (left j gs)
left_open j nil e = tt
left_open all (cons (known true) gs) e = left_open all gs e
left_open all (cons (known false) gs) e = clash' e
left_open any (cons (known true) gs) e = clash' e
left_open any (cons (known false) gs) e = left_open any gs e
left_open j (cons (fact k) gs) e = (refl, left_open j gs e)
left_open j (cons (negated g) gs) e = (refl, left_open j gs e)
left_open j (cons (group h hs) gs) e = (refl, left_open j gs e)

-- a part that makes no difference, and one that decides
decided_empty : (j : Junction) (gs : Grounds) → decided j (cons (known (empty j)) gs) ≡ decided j gs
decided_empty all gs = refl
decided_empty any gs = refl

left_empty : (j : Junction) (gs : Grounds) → left j (cons (known (empty j)) gs) ≡ left j gs
left_empty all gs = refl
left_empty any gs = refl

decided_other : (j : Junction) (gs : Grounds) → decided j (cons (known (not (empty j))) gs) ≡ true
decided_other all gs = refl
decided_other any gs = refl

-- what is told equals a truth, or does not
same_told : (told : Option Bool) (b : Bool) → true ≡ option_eq beq told (Some b) → told ≡ Some b
same_told None b e = clash (sym e)
same_told (Some true) true e = refl
same_told (Some true) false e = clash (sym e)
same_told (Some false) true e = clash (sym e)
same_told (Some false) false e = refl

not_other : (j : Junction) (b : Bool) → beq b (not (empty j)) ≡ false → b ≡ empty j
not_other all true e = refl
not_other all false e = clash' e
not_other any true e = clash' e
not_other any false e = refl

-- what closing writes, as entries
abbrev closed_codes : Junction → ℕ → List Entry → List Entry
closed_codes j n es = cond (eqb n 0) [] (cond (eqb n 1) es (entry (junction_code j) n ∷ es))

closed_coded : (j : Junction) (n : ℕ) (es : List Head) → map coded (closed_entries j n es) ≡ closed_codes j n (map coded es)
closed_coded j n es = go j (eqb n 0) (eqb n 1)
  where
    go : (j : Junction) (a b : Bool) → map coded (cond a [] (cond b es (record { kind = kind_of j; operand = n } ∷ es))) ≡ cond a [] (cond b (map coded es) (entry (junction_code j) n ∷ map coded es))
    go j true b = refl
    go j false true = refl
    go all false false = refl
    go any false false = refl

-- so the parts that are left make up what the junction comes to
closed_body : (j : Junction) (gs : Grounds) → AllOpen gs → closed_codes j (count_grounds gs) (write_grounds gs) ≡ body (grouped j gs)
closed_body j nil o = refl
closed_body j (cons g nil) o = append-nil (write_ground g) ∙ sym (open_body g o.0)
closed_body j (cons g (cons h gs)) o = grind (arith, nat_tests)

closed_told : (j : Junction) (gs : Grounds) → AllOpen gs → closed_truth j (count_grounds gs) ≡ truth_of (grouped j gs)
closed_told j nil o = refl
closed_told j (cons g nil) o = sym o.0
closed_told j (cons g (cons h gs)) o = grind (arith, nat_tests)

-- entries that were appended, and what stood before them
module _ (before after : List Head) (es : List Entry) (e : map coded after ≡ map coded before ++ es) where
  kept_front : map coded (take (length before) after) ≡ map coded before
  kept_front = sym (take-map coded (length before) after) ∙ ap (take (length before)) e ∙ take_at (map coded before) es (length before) (length-map before coded)

  -- the first of them aside
  kept_behind : (own : Entry) (written : List Entry) → es ≡ own ∷ written → map coded (drop (suc (length before)) after) ≡ written
  kept_behind own written q =
      let p = e ∙ ap (λ es. map coded before ++ es) q ∙ sym (append_assoc (map coded before) (own ∷ []) written) in
      sym (drop-map coded (suc (length before)) after) ∙ ap (drop (suc (length before))) p
      ∙ drop_at (map coded before ++ own ∷ []) written (suc (length before)) (omega (arith, length_push (map coded before) own, length-map before coded))

-- nothing is left of TRUE and FALSE
pub known_left : (b : Bool) (before after : List Head) → map coded after ≡ map coded before → Left (known b) before after (Some b)
known_left b before after e = record { entries = e ∙ sym (append-nil (map coded before)); truth = refl }

-- of a junction's parts n are left so far, and stand behind its own entry: these and what is left of the rest tell what is left of the whole
pub record Kept (j : Junction) (whole rest : Grounds) (before after : List Head) (n : ℕ) : Type 0 where
  pub own : Entry
  pub written : List Entry
  pub entries : map coded after ≡ map coded before ++ own ∷ written
  pub decides : decided j whole ≡ decided j rest
  pub writes : write_grounds (left j whole) ≡ written ++ write_grounds (left j rest)
  pub counts : count_grounds (left j whole) ≡ n + count_grounds (left j rest)

-- none is left so far
pub kept_none : {j : Junction} {gs : Grounds} {before after : List Head} (own : Head) → after ≡ before ++ own ∷ [] → Kept j gs gs before after 0
kept_none {j} {gs} {before} {after} own e =
    record {
      own = coded own;
      written = [];
      entries = ap (map coded) e ∙ map-append coded before (own ∷ []);
      decides = refl;
      writes = refl;
      counts = omega arith;
    }

module _ {j : Junction} {whole rest : Grounds} {before mid : List Head} {n : ℕ} (k : Kept j whole rest before mid n) where
  -- the junction's own entry is there
  pub kept_room : length before < length mid
  kept_room =
      omega (arith, length-map before coded, length-map mid coded, ap length k.entries ∙ length-append (map coded before) (k.own ∷ k.written))

  -- nothing happens
  pub kept_same : {more : Grounds} {after : List Head} {m : ℕ} → rest ≡ more → after ≡ mid → m ≡ n → Kept j whole more before after m
  kept_same {more} {after} {m} e q r =
      record {
        own = k.own;
        written = k.written;
        entries = ap (map coded) q ∙ k.entries;
        decides = k.decides ∙ ap (decided j) e;
        writes = k.writes ∙ ap (λ gs. k.written ++ write_grounds (left j gs)) e;
        counts = omega (arith, k.counts, ap (λ gs. count_grounds (left j gs)) e, r);
      }

  -- no part is to come, and the junction is closed
  pub closed : {start : ℕ} {after : List Head} {told : Option Bool} → start ≡ length before → rest ≡ nil → told ≡ closed_truth j n
      → after ≡ take start mid ++ closed_entries j n (drop (suc start) mid) → Left (combine j whole) before after told
  closed {start} {after} {told} long z t e =
      let d : decided j whole ≡ false = k.decides ∙ ap (decided j) z in
      let c : combine j whole ≡ grouped j (left j whole) = passed (decided j whole) (known (not (empty j))) (grouped j (left j whole)) d in
      let o : AllOpen (left j whole) = left_open j whole d in
      let m : n ≡ count_grounds (left j whole) = omega (arith, k.counts, ap (λ gs. count_grounds (left j gs)) z) in
      let w : k.written ≡ write_grounds (left j whole) = sym (append-nil k.written) ∙ sym (k.writes ∙ ap (λ gs. k.written ++ write_grounds (left j gs)) z) in
      let r : after ≡ take (length before) mid ++ closed_entries j n (drop (suc (length before)) mid) = e ∙ ap (λ i. take i mid ++ closed_entries j n (drop (suc i) mid)) long in
      record {
        entries =
            ap (map coded) r ∙ map-append coded (take (length before) mid) (closed_entries j n (drop (suc (length before)) mid))
            ∙ ap₂ ◌++◌ (kept_front before mid (k.own ∷ k.written) k.entries) (closed_coded j n (drop (suc (length before)) mid))
            ∙ ap₂ (λ n es. map coded before ++ closed_codes j n es) m (kept_behind before mid (k.own ∷ k.written) k.entries k.own k.written refl ∙ w)
            ∙ ap (λ es. map coded before ++ es) (closed_body j (left j whole) o ∙ sym (ap body c));
        truth = t ∙ ap (closed_truth j) m ∙ closed_told j (left j whole) o ∙ sym (ap truth_of c);
      }

  -- one part more is simplified, and o is the truth of a part that decides
  module _ {g : Ground} {more : Grounds} {after : List Head} {told o : Option Bool} (z : rest ≡ cons g more) (l : Left g mid after told) (decisive : o ≡ Some (not (empty j))) where
    -- something is left of it
    part_open : told ≡ None → Kept j whole more before after (n + 1)
    part_open t =
        let p : truth_of g ≡ None = sym l.truth ∙ t in
        let x : left j rest ≡ cons g (left j more) = ap (left j) z ∙ passed (is (empty j) g) (left j more) (cons g (left j more)) (open_is (empty j) g p) in
        record {
          own = k.own;
          written = k.written ++ body g;
          entries = l.entries ∙ ap (λ es. es ++ body g) k.entries ∙ append_assoc (map coded before) (k.own ∷ k.written) (body g);
          decides = k.decides ∙ ap (decided j) z ∙ ap (λ b. b || decided j more) (open_is (not (empty j)) g p);
          writes =
              k.writes ∙ ap (λ gs. k.written ++ write_grounds gs) x ∙ ap (λ es. k.written ++ (es ++ write_grounds (left j more))) (sym (open_body g p))
              ∙ sym (append_assoc k.written (body g) (write_grounds (left j more)));
          counts = omega (arith, k.counts, ap count_grounds x);
        }

    -- it is TRUE or FALSE
    module _ {b : Bool} (t : told ≡ Some b) where
      part_known : g ≡ known b
      part_known = told_known b g (sym l.truth ∙ t)

      part_entries : map coded after ≡ map coded before ++ k.own ∷ k.written
      part_entries = l.entries ∙ ap (λ g. map coded mid ++ body g) part_known ∙ append-nil (map coded mid) ∙ k.entries

      part_dropped : (m : ℕ) → m ≡ n → b ≡ empty j → Kept j whole more before after m
      part_dropped m r e =
          let x : rest ≡ cons (known (empty j)) more = z ∙ ap (λ g. cons g more) (part_known ∙ ap known e) in
          let p : left j rest ≡ left j more = ap (left j) x ∙ left_empty j more in
          record {
            own = k.own;
            written = k.written;
            entries = part_entries;
            decides = k.decides ∙ ap (decided j) x ∙ decided_empty j more;
            writes = k.writes ∙ ap (λ gs. k.written ++ write_grounds gs) p;
            counts = omega (arith, k.counts, ap count_grounds p, r);
          }

    -- it decides, and what was written is taken away
    pub kept_decided : {start : ℕ} {cut : List Head} → true ≡ option_eq beq told o → start ≡ length before → cut ≡ take start after → Left (combine j whole) before cut told
    kept_decided {start} {cut} e long q =
        let t : told ≡ Some (not (empty j)) = same_told told (not (empty j)) (e ∙ ap (option_eq beq told) decisive) in
        let d : decided j whole ≡ true = k.decides ∙ ap (decided j) (z ∙ ap (λ g. cons g more) (part_known t)) ∙ decided_other j more in
        subst (λ t. Left (combine j whole) before cut t) (sym t)
        (subst (λ g. Left g before cut (Some (not (empty j)))) (sym (taken (decided j whole) (known (not (empty j))) (grouped j (left j whole)) d))
        (known_left (not (empty j)) before cut (ap (map coded) (q ∙ ap (λ i. take i after) long) ∙ kept_front before after (k.own ∷ k.written) (part_entries t))))

    -- it does not decide, and counts where something is left of it
    pub kept_counted : {later : List Head} {i m : ℕ} → false ≡ option_eq beq told o → i ≡ cond (is_some told) 0 1 → later ≡ after → m ≡ n + i → Kept j whole more before later m
    kept_counted {later} {i} {m} e c q r =
        subst (λ es. Kept j whole more before es m) (sym q) (subst (λ m. Kept j whole more before after m) (sym (r ∙ ap (λ i. n + i) c)) (go told refl (e ∙ ap (option_eq beq told) decisive)))
      where
        go : (x : Option Bool) → told ≡ x → false ≡ option_eq beq told (Some (not (empty j))) → Kept j whole more before after (n + cond (is_some told) 0 1)
        go None t e = subst (λ x. Kept j whole more before after (n + cond (is_some x) 0 1)) (sym t) (part_open t)
        go (Some b) t e =
            let d : false ≡ beq b (not (empty j)) = e ∙ ap (λ x. option_eq beq x (Some (not (empty j)))) t in
            subst (λ x. Kept j whole more before after (n + cond (is_some x) 0 1)) (sym t) (part_dropped t (n + 0) (omega arith) (not_other j b (sym d)))

-- NOT of a formula
module _ {g : Ground} {pushed mid : List Head} {told : Option Bool} (before : List Head) (own : Head) (e : pushed ≡ before ++ own ∷ []) (l : Left g pushed mid told) where
  -- its own entry, and what is left of its part
  part_after : map coded mid ≡ map coded before ++ coded own ∷ body g
  part_after =
      l.entries ∙ ap (λ es. map coded es ++ body g) e ∙ ap (λ es. es ++ body g) (map-append coded before (own ∷ [])) ∙ append_assoc (map coded before) (coded own ∷ []) (body g)

  pub turned_room : length before < length mid
  turned_room = omega (arith, length-map before coded, length-map mid coded, ap length part_after ∙ length-append (map coded before) (coded own ∷ body g))

  pub turned : {start : ℕ} {after : List Head} {turn : Option Bool} → start ≡ length before → coded own ≡ entry 4 0 → turn ≡ turned_truth told → after ≡ turned_entries start told mid → Left (opposite g) before after turn
  turned {start} {after} {turn} long c t q = go told refl t (q ∙ ap (λ i. turned_entries i told mid) long)
    where
      go : (o : Option Bool) → told ≡ o → turn ≡ turned_truth o → after ≡ turned_entries (length before) o mid → Left (opposite g) before after turn
      go None o t q =
          let p : truth_of g ≡ None = sym l.truth ∙ o in
          let x : opposite g ≡ negated g = opposite_open g p in
          record {
            entries = ap (map coded) q ∙ part_after ∙ ap₂ (λ x es. map coded before ++ x ∷ es) c (open_body g p) ∙ ap (λ g. map coded before ++ body g) (sym x);
            truth = t ∙ sym (ap truth_of x);
          }
      go (Some b) o t q =
          subst (λ r. Left (opposite g) before after r) (sym t)
          (subst (λ g. Left g before after (Some (not b))) (sym (ap opposite (told_known b g (sym l.truth ∙ o))))
          (known_left (not b) before after (ap (map coded) q ∙ kept_front before mid (coded own ∷ body g) part_after)))
