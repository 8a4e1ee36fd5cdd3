-- An error by its number, as the code tests it.
use Rattle.std.specs.Prelude.{Option, Some}
use Rattle.std.specs.IoError.{raw_os_error}
use Rattle.std.specs.declared.io.Error.{Error}
use Rattle.text.specs.Prelude.{ℕ, ◌^◌, ◌<◌, ◌≡◌, true, false, ℤ, pos, negsuc}
use Rattle.text.proofs.Prelude.{arith, refl, sym, first, second, yes=, no=}
use mir.Syntax.{w32}
use mir.Val.{SFits, of_z}
use Rattle.files.specs.Call.{is_errno, call_error_of}
use Rattle.files.specs.declared.call.CallError.{CallError}

-- the error's number is that one
pub number_is : {n : ℕ} (z : ℤ) → SFits w32 z → n < 2 ^ 31 → of_z w32 z ≡ n → is_errno n (Some z) ≡ true
unfolding is_errno
number_is (pos k) f h t = yes= t
number_is (negsuc k) f h t = absurd (omega (arith, f.sfits, t))

-- or it is another
pub number_isnt : {n : ℕ} (z : ℤ) → (of_z w32 z ≡ n → ⊥) → is_errno n (Some z) ≡ false
unfolding is_errno
number_isnt (pos k) t = no= t
number_isnt (negsuc k) t = refl

module _ (why : Error) {o : Option ℤ} (e : o ≡ raw_os_error why) where
  pub again : is_errno 4 o ≡ true → CallError.Again ≡ call_error_of why
  again h = first _ (rw (sym e) h) refl

  pub closed : is_errno 4 o ≡ false → is_errno 32 o ≡ true → CallError.Closed ≡ call_error_of why
  closed h k = second _ (rw (sym e) h) (first _ (rw (sym e) k) refl)

  pub failed : is_errno 4 o ≡ false → is_errno 32 o ≡ false → CallError.Failed ≡ call_error_of why
  failed h k = second _ (rw (sym e) h) (second _ (rw (sym e) k) refl)
