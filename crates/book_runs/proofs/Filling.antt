-- A step over an image that a copy has filled.
use Rattle.std.proofs.Common.{◌≡◌, ℕ, ◌+◌, ◌<◌, true, false, ltb, List, length, Ok, sym, ap, ◌∙◌}
use Rattle.std.proofs.lemmas.Bool.{cond-true, cond-false, lt-ltb}
use Rattle.model.specs.Trees.{Name}
use Rattle.model.specs.Meaning.{State}
use Rattle.model.specs.Books.{Book, find}
use Rattle.store.specs.Sets.{pictured, after_copy, copied}
use Rattle.protocol.specs.Shown.{shown}
use Rattle.protocol.specs.Steps.{put_step}
use Rattle.protocol.specs.Machines.{refused, Performed}
use Rattle.protocol.proofs.Images.{had_room}
use Rattle.protocol.specs.BookCalls.{facts}
use Rattle.book_runs.specs.Runs.{is_taken, literals_taken, act_by_puts, perform_by_puts}

module _ (size n : ℕ) (s : State) (im seen : List ℕ) (room : Ok tt ≡ copied size (length im) n) (filled : seen ≡ after_copy size n s im) where
  -- the copy was not refused
  fits : (ltb size n ≡ false) × (ltb (length im) n ≡ false)
  fits = had_room (ltb size n) (ltb (length im) n) _ _ room

  pictures : seen ≡ pictured n s im
  pictures = filled ∙ cond-false (ltb size n) im _ fits.0 ∙ cond-false (ltb (length im) n) im (pictured n s im) fits.1

-- a step of a book over the image that a copy has filled
module _ (b : Book) (size n a : ℕ) (s u : State) (im seen : List ℕ) (m : Name) (few : n < 65535) (count : a ≡ facts b) (room : Ok tt ≡ copied size (length im) a) (filled : seen ≡ after_copy size a s im) where
  acts : perform_by_puts b size n s im m ≡ act_by_puts size n s seen (find m b.actions)
  acts =
      let w = fits size a s im seen room filled in
      let x : ltb size (facts b) ≡ false = ap (λ z. ltb size z) (sym count) ∙ w.0 in
      let y : ltb (length im) (facts b) ≡ false = ap (λ z. ltb (length im) z) (sym count) ∙ w.1 in
      let p : seen ≡ pictured (facts b) s im = pictures size a s im seen room filled ∙ ap (λ z. pictured z s im) count in
      cond-true (ltb n 65535) _ _ (lt-ltb n 65535 few) ∙ cond-false (ltb size (facts b)) _ _ x ∙ cond-false (ltb (length im) (facts b)) _ _ y
      ∙ ap (λ (z : List ℕ). act_by_puts size n s z (find m b.actions)) (sym p)

  -- it is taken
  pub step_taken : true ≡ is_taken (shown seen) (find m b.actions) → u ≡ put_step size (literals_taken (shown seen) (find m b.actions)) s
      → record { steps = n + 1; set = u; image = seen; answer = Ok tt } ≡ perform_by_puts b size n s im m
  step_taken e r =
      let R : State → Performed = λ z. record { steps = n + 1; set = z; image = seen; answer = Ok tt } in
      ap R r ∙ sym (acts ∙ cond-true (is_taken (shown seen) (find m b.actions)) _ _ (sym e))

  -- or refused
  pub step_refused : false ≡ is_taken (shown seen) (find m b.actions) → u ≡ s
      → record { steps = n; set = u; image = seen; answer = refused 24 n } ≡ perform_by_puts b size n s im m
  step_refused e r =
      let R : State → Performed = λ z. record { steps = n; set = z; image = seen; answer = refused 24 n } in
      ap R r ∙ sym (acts ∙ cond-false (is_taken (shown seen) (find m b.actions)) _ _ (sym e))
