-- Fields as GNU ld 2.40 relocates them. The instructions lie from 0x123450 and from 0x7f23450 on, `thing` is at 0x20005678, its word of
-- the table at 0x13ffe0, and `low` at 0x4000.
use Rattle.std.proofs.Common.{◌≡◌, refl}
use Rattle.linker.specs.Fields.{with_page, with_low, with_low_of_8, with_distance, relocated}

-- adrp x0, thing
page_of_symbol : relocated (record { kind = 275; place = 0x123450; sum = 0x20005678; got = 0 }) 0x90000000 ≡ 0xd00ff700
unfolding with_page
page_of_symbol = refl

-- add x0, x0, :lo12:thing
low_of_symbol : relocated (record { kind = 277; place = 0x123454; sum = 0x20005678; got = 0 }) 0x91000000 ≡ 0x9119e000
unfolding with_low
low_of_symbol = refl

-- adrp x1, :got:thing
page_of_word : relocated (record { kind = 311; place = 0x123458; sum = 0x20005678; got = 0x13ffe0 }) 0x90000001 ≡ 0x900000e1
unfolding with_page
page_of_word = refl

-- ldr x1, [x1, :got_lo12:thing]
low_of_word : relocated (record { kind = 312; place = 0x12345c; sum = 0x20005678; got = 0x13ffe0 }) 0xf9400021 ≡ 0xf947f021
unfolding with_low_of_8
low_of_word = refl

-- bl far, and b back to the start
call_on : relocated (record { kind = 283; place = 0x123460; sum = 0x7f23450; got = 0 }) 0x94000000 ≡ 0x95f7fffc
unfolding with_distance
call_on = refl

jump_back : relocated (record { kind = 282; place = 0x123464; sum = 0x123450; got = 0 }) 0x14000000 ≡ 0x17fffffb
unfolding with_distance
jump_back = refl

-- adrp x2, _start, on its own page
own_page : relocated (record { kind = 275; place = 0x123468; sum = 0x123450; got = 0 }) 0x90000002 ≡ 0x90000002
unfolding with_page
own_page = refl

-- bl _start and adrp x3, low, from far behind them
call_back : relocated (record { kind = 283; place = 0x7f23450; sum = 0x123450; got = 0 }) 0x94000000 ≡ 0x96080000
unfolding with_distance
call_back = refl

page_back : relocated (record { kind = 275; place = 0x7f23454; sum = 0x4000; got = 0 }) 0x90000003 ≡ 0xb0fc0703
unfolding with_page
page_back = refl
