-- The image of a constant, which is what is built today: its code, and nothing else.
use Rattle.std.specs.Prelude.{◌≡◌, ℕ, ◌+◌, ◌*◌, ◌/◌, ◌%◌, ◌≤◌, nat_lt, if◌then◌else◌, List, [], ◌∷◌}
use Rattle.elf_image.specs.Image.{Image}

-- `movz w0, #low`, `movk w0, #high, lsl 16` and `svc #3` (Arm ARM, C6.2: MOVZ, MOVK, SVC)
abbrev pub movz_word : ℕ → ℕ
movz_word low = 0x52800000 + low * 32

abbrev pub movk_word : ℕ → ℕ
movk_word high = 0x72a00000 + high * 32

abbrev pub svc_word : ℕ
svc_word = 0xd4000061

-- the code of `int main(void){return n;}`, with a second move where n is over 65,535
abbrev pub constant_code : ℕ → List ℕ
constant_code n =
    if nat_lt 65535 n then movz_word (n % 65536) ∷ movk_word (n / 65536) ∷ svc_word ∷ [] else movz_word (n % 65536) ∷ svc_word ∷ []

-- the greatest number of an `int`
abbrev pub int_max : ℕ
int_max = 2147483647

-- the image of `int main(void){return n;}`, entered at its first word
abbrev pub constant_image : ℕ → Image
constant_image n = record {
  entry = 0x1000;
  relocs = [];
  descriptors = [];
  rodata = [];
  words = constant_code n;
  filled = [];
  zero_bytes = 0;
}
