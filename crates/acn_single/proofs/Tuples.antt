-- The parts of tuples whose types are definitions.
pub last_two : {A B : Type 0} → A × B → B
last_two p = p.1

pub first_two : {A B : Type 0} → A × B → A
first_two p = p.0

pub first_three : {A B C : Type 0} → A × B × C → A
first_three p = p.0

pub second_three : {A B C : Type 0} → A × B × C → B
second_three p = p.1

pub last_three : {A B C : Type 0} → A × B × C → C
last_three p = p.2

pub second_four : {A B C D : Type 0} → A × B × C × D → B
second_four p = p.1

pub third_four : {A B C D : Type 0} → A × B × C × D → C
third_four p = p.2

pub first_four : {A B C D : Type 0} → A × B × C × D → A
first_four p = p.0

pub last_four : {A B C D : Type 0} → A × B × C × D → D
last_four p = p.3

pub first_five : {A B C D E : Type 0} → A × B × C × D × E → A
first_five p = p.0

pub fourth_five : {A B C D E : Type 0} → A × B × C × D × E → D
fourth_five p = p.3

pub last_five : {A B C D E : Type 0} → A × B × C × D × E → E
last_five p = p.4
