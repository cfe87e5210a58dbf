-- Lists that begin with what they held before, and cutting them back to it.
use Rattle.std.proofs.Common.{◌≡◌, ℕ, List, [], ◌∷◌, ◌++◌, map, length, take, sym, refl, ap, ap₂, ◌∙◌}
use Rattle.std.proofs.lemmas.List.{append_assoc, append-nil, length-map, map-append, take-map, take_at}
use Rattle.table.specs.Entries.{coded}
use Rattle.table.specs.Reading.{Entry}
use Rattle.table.specs.declared.arrays.Head.{Head}
use Rattle.table.proofs.Codes.{same_code}
use Rattle.model.specs.Meaning.{Literal}
use Rattle.rising.specs.declared.literal.Literal as code
use Rattle.rising.specs.declared.literal.Sign.{Sign}
use Rattle.rising.specs.declared.literal.Sign.TheVariants.{Adds, Deletes}
use Rattle.rising.specs.Literals.{is_adds, sign_of}
use Rattle.runs.specs.declared.draft.Draft.{Draft}
use Rattle.runs.specs.Extends.{Extends}
use Rattle.runs.specs.Clauses.{Appends, DraftExtends}
use Rattle.runs.specs.Effects.{meant}
use Rattle.runs.proofs.Appending.{appended_after}

-- Entries.

pub extends_same : {xs ys : List Head} → ys ≡ xs → Extends xs ys
extends_same {xs} {ys} e = record { more = []; entries = ap (map coded) e ∙ sym (append-nil (map coded xs)) }

pub extends_by : {xs ys : List Head} (es : List Entry) → map coded ys ≡ map coded xs ++ es → Extends xs ys
extends_by {xs} {ys} es e = record { more = es; entries = e }

-- what reads the same was extended
pub extends_from : {xs ys zs : List Head} → map coded ys ≡ map coded xs → Extends ys zs → Extends xs zs
extends_from {xs} {ys} {zs} e q = record { more = q.more; entries = q.entries ∙ ap (λ ds. ds ++ q.more) e }

pub extends_after : {xs ys zs : List Head} (es : List Entry) → map coded ys ≡ map coded xs ++ es → Extends ys zs → Extends xs zs
extends_after {xs} {ys} {zs} es e q = record { more = es ++ q.more; entries = q.entries ∙ ap (λ ds. ds ++ q.more) e ∙ append_assoc (map coded xs) es q.more }

pub extends_pushed : {xs ys zs : List Head} (h : Head) → ys ≡ xs ++ (h ∷ []) → Extends ys zs → Extends xs zs
extends_pushed {xs} {ys} {zs} h e q = extends_after (coded h ∷ []) (ap (map coded) e ∙ map-append coded xs (h ∷ [])) q

-- Entries and literals.

pub draft_after : {es : List Entry} {ls : List Literal} {a b c : Draft} → Appends es ls a b → DraftExtends b c → DraftExtends a c
draft_after {es} {ls} {a} {b} {c} p q = record { entries = es ++ q.entries; literals = ls ++ q.literals; appends = appended_after p q.appends }

pub draft_so : {es : List Entry} {ls : List Literal} {a b : Draft} → Appends es ls a b → DraftExtends a b
draft_so {es} {ls} {a} {b} p = record { entries = es; literals = ls; appends = p }

-- the entries of what was extended
pub entries_extend : {a b : Draft} → DraftExtends a b → Extends a.entries.items b.entries.items
entries_extend {a} {b} d = record { more = d.entries; entries = d.appends.entries }

pub draft_by : (ls : List Literal) {a b : Draft} → Extends a.entries.items b.entries.items → map meant b.literals.items ≡ map meant a.literals.items ++ ls → DraftExtends a b
draft_by ls {a} {b} p q = record { entries = p.more; literals = ls; appends = record { entries = p.entries; literals = q } }

-- the entries alone
pub draft_entries : {a b : Draft} → Extends a.entries.items b.entries.items → b.literals.items ≡ a.literals.items → DraftExtends a b
draft_entries {a} {b} p q = draft_by [] p (ap (map meant) q ∙ sym (append-nil (map meant a.literals.items)))

-- Cutting back.

same_head : (x y : Head) → coded x ≡ coded y → x ≡ y
same_head x y e = ap₂ (λ k o. record { kind = k; operand = o }) (same_code x.kind y.kind (ap (λ (z : Entry). z.kind) e)) (ap (λ (z : Entry). z.operand) e)

sign_back : (s : Sign) → sign_of (is_adds s) ≡ s
sign_back Adds = refl
sign_back Deletes = refl

same_literal : (x y : code.Literal) → meant x ≡ meant y → x ≡ y
same_literal x y e =
    ap₂ (λ a s. record { atom = a; sign = s }) (ap (λ (z : Literal). z.atom) e)
    (sym (sign_back x.sign) ∙ ap sign_of (ap (λ (z : Literal). z.adds) e) ∙ sign_back y.sign)

module _ {A B : Type 0} (f : A → B) (same : (x y : A) → f x ≡ f y → x ≡ y) where
  same_lists : (xs ys : List A) → map f xs ≡ map f ys → xs ≡ ys
  same_lists [] [] e = refl
  same_lists [] (y ∷ ys) e = absurd (let q : ◌≡◌ {A = List B} [] (f y ∷ map f ys) = e in cc)
  same_lists (x ∷ xs) [] e = absurd (let q : ◌≡◌ {A = List B} (f x ∷ map f xs) [] = e in cc)
  same_lists (x ∷ xs) (y ∷ ys) e =
      let q : f x ∷ map f xs ≡ f y ∷ map f ys = e in
      let h : f x ≡ f y = cc in
      let t : map f xs ≡ map f ys = cc in
      ap₂ ◌∷◌ (same x y h) (same_lists xs ys t)

  cut : (before after kept : List A) (more : List B) (n : ℕ) → n ≡ length before → map f after ≡ map f before ++ more → kept ≡ take n after → kept ≡ before
  cut before after kept more n l e k =
      same_lists kept before (ap (map f) k ∙ sym (take-map f n after) ∙ ap (take n) e ∙ take_at (map f before) more n (length-map before f ∙ sym l))

pub entries_cut : (before after kept : List Head) (n : ℕ) → n ≡ length before → Extends before after → kept ≡ take n after → kept ≡ before
entries_cut before after kept n l e k = cut coded same_head before after kept e.more n l e.entries k

pub literals_cut : (before after kept : List code.Literal) (more : List Literal) (n : ℕ) → n ≡ length before → map meant after ≡ map meant before ++ more → kept ≡ take n after → kept ≡ before
literals_cut before after kept more n l e k = cut meant same_literal before after kept more n l e k
